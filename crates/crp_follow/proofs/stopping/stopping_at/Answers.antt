use Rattle.std.proofs.Common.{◌≡◌, ◌∙◌, suc, ℕ, List, take, drop, sym, ap, subst, get_or}
use Rattle.std.proofs.lemmas.Option.{get_or_from_slice_get}
use Rattle.crp_sizes.specs.Sizes.{heights_at}
use Rattle.crp_follow.specs.declared.stated.StatedMove.{StatedMove}
use Rattle.crp_follow.specs.Crane.{Leads}
use Rattle.crp_follow.specs.Stated.{moves_of}
use Rattle.crp_follow.proofs.StoppingSteps.{cut_at, some_same}
use Rattle.crp_follow.proofs.stopping.stopping_at.Goals as goal

pub returns : goal.returns
returns c =
    let moves = c.args.stated.now.moves.items in
    let k = c.args.step in
    let m = c.requires.0 in
    let slice : c.as_slice-moves.result.now ≡ moves = c.as_slice-moves.ensures.value in
    let is : get_or c.as_slice-moves.result.now k c.index-moves-step.result ≡ m =
    ap (λ (l : List StatedMove). get_or l k c.index-moves-step.result) slice ∙ get_or_from_slice_get moves k m c.index-moves-step.result c.requires.1 in
    let same = c.in-Ok-from_slice.ensures.items in
    let rows = c.make_moves.new.rows.items in
    let start = c.in-Ok-rows_of.rows.items in
    let led = subst (λ (l : List StatedMove). Leads c.heights-heights.result.now start (moves_of (take k l)) rows) slice c.in-Ok-make_moves.ensures.made in
    record {
      start = start;
      made = take k moves;
      next = m;
      later = drop (suc k) moves;
      stands = c.in_ok-bay.ensures.there.2 ∙ c.in-Ok-rows_of.ensures;
      heights_are = same ∙ some_same c.heights-heights.result.now (heights_at c.args.yard.now.sizes c.args.stated.now.bay) (sym c.heights-heights.ensures.value ∙ c.in_ok-bay.ensures.there.1);
      moves_are = cut_at moves k m c.requires.1;
      line_is = c.requires.2;
      said_is = c.in-Ok-copied.ensures ∙ ap (λ (x : StatedMove). x.said) is;
      leads = subst (λ (h : List ℕ). Leads h start (moves_of (take k moves)) rows) (sym same) led;
    }
