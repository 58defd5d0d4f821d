use Rattle.std.proofs.Common.{◌≡◌, ◌<◌, ◌-◌, ◌&&◌, Bool, [], length, get_or, sym, ap, ◌∙◌, arith}
use Rattle.crp_plan.specs.Bay.{Position}
use Rattle.crp_plan.proofs.Steps.{same_rows}
use Rattle.crp_bay.specs.Positions.{stack_at}
use Rattle.crp_bay.proofs.Tops.{any_default}
use Rattle.crp_thinned.specs.Hindering.{hinders_nobody}
use Rattle.crp_thinned.specs.Thinned.{blocker}
use Rattle.crp_thinning.proofs.rows.is_free.Goals as goal

pub returns-then-not-is_good : goal.returns-then-not-is_good
returns-then-not-is_good c =
    let s : Position = c.args.track.now.place in
    ap (λ (b : Bool). b && hinders_nobody s.ordered (blocker s) s.stacks (get_or s.heights (c.args.row - 1) 0) (stack_at s (c.args.row - 1))) (sym c.if-not-is_good.true ∙ c.is_good.ensures)

pub bounds-stacks-index : goal.bounds-stacks-index
bounds-stacks-index c =
    let f = c.stacks-stacks.ensures.fine in
    omega (arith, c.requires.there, c.requires.counts, ap length c.stacks-stacks.ensures.value, same_rows c.args.track.now.place.heights c.args.track.now.place.stacks f.stacks_fit)

pub hinders_nobody-requires-clause-rows : goal.hinders_nobody-requires-clause-rows
hinders_nobody-requires-clause-rows c =
    let f = c.stacks-stacks.ensures.fine in let few = f.few_rows in
    omega (arith, ap length c.stacks-stacks.ensures.value, same_rows c.args.track.now.place.heights c.args.track.now.place.stacks f.stacks_fit)

pub returns : goal.returns
returns c =
    let s : Position = c.args.track.now.place in
    let i = c.args.row - 1 in
    let f = c.stacks-stacks.ensures.fine in
    let lt : i < length c.stacks-stacks.result.now = omega (arith, c.requires.there, c.requires.counts, ap length c.stacks-stacks.ensures.value, same_rows s.heights s.stacks f.stacks_fit) in
    let here : c.ranks.result.now ≡ stack_at s i =
    c.ranks.ensures.value ∙ c.index-stacks-index.is ∙ sym (any_default c.stacks-stacks.result.now i [] c.index-stacks-index.result lt) ∙ ap (λ l. get_or l i []) c.stacks-stacks.ensures.value in
    c.hinders_nobody.ensures
    ∙ ap (λ n. hinders_nobody n c.args.rank c.stacks-stacks.result.now (get_or c.heights.result.now i 0) c.ranks.result.now) c.ordered.ensures.value
    ∙ ap (λ x. hinders_nobody s.ordered x c.stacks-stacks.result.now (get_or c.heights.result.now i 0) c.ranks.result.now) c.requires.blocker
    ∙ ap (λ l. hinders_nobody s.ordered (blocker s) l (get_or c.heights.result.now i 0) c.ranks.result.now) c.stacks-stacks.ensures.value
    ∙ ap (λ l. hinders_nobody s.ordered (blocker s) s.stacks (get_or l i 0) c.ranks.result.now) c.heights.ensures.value
    ∙ ap (hinders_nobody s.ordered (blocker s) s.stacks (get_or s.heights i 0)) here
    ∙ ap (λ (b : Bool). b && hinders_nobody s.ordered (blocker s) s.stacks (get_or s.heights i 0) (stack_at s i)) (sym c.if-not-is_good.false ∙ c.is_good.ensures)
