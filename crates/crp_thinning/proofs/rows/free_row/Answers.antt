use Rattle.std.proofs.Common.{◌≤◌, length, sym, ap, ◌∙◌, arith}
use Rattle.crp_plan.specs.Bay.{Position}
use Rattle.crp_plan.proofs.Steps.{same_rows}
use Rattle.crp_thinning.proofs.GoodRows.{free_begins, free_on, free_here, free_none, no_free, stays_not_free}
use Rattle.crp_thinning.proofs.rows.free_row.Goals as goal

pub returns-then-next-ordered : goal.returns-then-next-ordered
returns-then-next-ordered c = sym (no_free c.args.track.now.place (omega (arith, c.next.ensures.value, c.ordered-ordered.ensures.value, c.if-next-ordered.true)))

pub returns-then-rank-ordered : goal.returns-then-rank-ordered
returns-then-rank-ordered c = sym (stays_not_free c.args.track.now.place (omega (arith, c.blocker-rank.ensures, c.ordered-ordered.ensures.value, c.if-rank-ordered.true)))

pub count_lower-lower-requires : goal.count_lower-lower-requires
count_lower-lower-requires c =
    let s : Position = c.args.track.now.place in let f = c.stacks.ensures.fine in let few = f.few_rows in
    omega (arith, ap length c.stacks.ensures.value, same_rows s.heights s.stacks f.stacks_fit)

pub loop-row-init : goal.loop-row-init
loop-row-init c = free_begins c.args.track.now.place

pub returns-then-is_free : goal.returns-then-is_free
returns-then-is_free c =
    let s : Position = c.args.track.now.place in
    let le : c.loop-row.row ≤ length s.heights = omega (arith, c.loop-row-test.true, ap length c.heights.ensures.value) in
    sym (c.loop-row.invariant ∙ free_here s c.loop-row.row le (sym c.is_free.ensures ∙ c.if-is_free.true))

pub loop-row-preserved : goal.loop-row-preserved
loop-row-preserved c =
    let s : Position = c.args.track.now.place in
    let le : c.loop-row.row ≤ length s.heights = omega (arith, c.loop-row-test.true, ap length c.heights.ensures.value) in
    c.loop-row.invariant ∙ free_on s c.loop-row.row le (sym c.is_free.ensures ∙ c.if-is_free.false)

pub returns : goal.returns
returns c = sym (c.loop-row.invariant ∙ free_none c.args.track.now.place c.loop-row.row (omega (arith, c.loop-row-test.false, ap length c.heights.ensures.value)))
