use Rattle.std.proofs.Common.{◌<◌, ◌-◌, [], length, get_or, sym, ap, ◌∙◌, arith}
use Rattle.crp_plan.specs.Bay.{Position}
use Rattle.crp_plan.proofs.Steps.{same_rows}
use Rattle.crp_bay.proofs.Tops.{any_default}
use Rattle.crp_thinning.proofs.GoodRows.{other_row}
use Rattle.crp_thinning.proofs.rows.is_good.Goals as goal

pub bounds-stacks-index : goal.bounds-stacks-index
bounds-stacks-index c =
    let f = c.stacks.ensures.fine in
    omega (arith, c.requires.there, c.requires.counts, ap length c.stacks.ensures.value, same_rows c.args.track.now.place.heights c.args.track.now.place.stacks f.stacks_fit)

pub returns : goal.returns
returns c =
    let s : Position = c.args.track.now.place in
    let f = c.stacks.ensures.fine in
    let lt : c.args.row - 1 < length c.stacks.result.now = omega (arith, c.requires.there, c.requires.counts, ap length c.stacks.ensures.value, same_rows s.heights s.stacks f.stacks_fit) in
    let here = ap (λ l. get_or l (c.args.row - 1) []) (sym c.stacks.ensures.value) ∙ any_default c.stacks.result.now (c.args.row - 1) [] c.index-stacks-index.result lt ∙ sym c.index-stacks-index.is ∙ sym c.ranks.ensures.value in
    c.has_good_room.ensures
    ∙ other_row s c.args.row (get_or c.heights.result.now (c.args.row - 1) 0) c.args.rank c.ordered.result c.ranks.result.now c.requires.left c.requires.counts (λ e. c.if-index-from.false (sym (c.requires.source ∙ e)))
    here (ap (λ l. get_or l (c.args.row - 1) 0) (sym c.heights.ensures.value)) c.requires.blocker c.ordered.ensures.value
