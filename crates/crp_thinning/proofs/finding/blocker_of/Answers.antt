use Rattle.std.proofs.Common.{◌≡◌, ◌-◌, ap, ◌∙◌, arith}
use Rattle.crp_plan.specs.Rows.{holds, below}
use Rattle.crp_plan.specs.Bay.{Position}
use Rattle.crp_bounds.specs.Leasts.{least_ordered}
use Rattle.crp_chains.proofs.Blockers.{blocker_made, blocker_refused, blocker_absent}
use Rattle.crp_thinning.proofs.finding.blocker_of.Goals as goal

pub returns-in_default-clause-none : goal.returns-in_default-clause-none
returns-in_default-clause-none c b e blocks =
    blocker_absent c.args.track.now.place b (λ i stack h. ap (λ r. holds r stack) e ∙ c.in_default.ensures.none i stack h) blocks

pub returns-then-turn-rank-clause-blocks : goal.returns-then-turn-rank-clause-blocks
returns-then-turn-rank-clause-blocks c =
    let s : Position = c.args.track.now.place in
    let turn_is : c.least_of-turn.result ≡ least_ordered s.ordered (below c.args.rank c.stack.result.now) =
    c.least_of-turn.ensures ∙ ap (least_ordered c.ordered.result) c.beneath.ensures ∙ ap (λ o. least_ordered o (below c.args.rank c.stack.result.now)) c.ordered.ensures.value in
    blocker_made s (c.in-Some.row - 1) c.stack.result.now c.args.rank c.least_of-turn.result c.stack.ensures.value
    (c.in-Some.ensures.held c.stack.result.now c.stack.ensures.value) turn_is c.if-turn-rank.true (omega (arith, c.ranges.rank.fits))

pub returns-else-turn-rank-clause-none : goal.returns-else-turn-rank-clause-none
returns-else-turn-rank-clause-none c b e blocks =
    let s : Position = c.args.track.now.place in
    let stack = c.stack.result.now in
    let turn_is : c.least_of-turn.result ≡ least_ordered s.ordered (below c.args.rank stack) =
    c.least_of-turn.ensures ∙ ap (least_ordered c.ordered.result) c.beneath.ensures ∙ ap (λ o. least_ordered o (below c.args.rank stack)) c.ordered.ensures.value in
    blocker_refused s (c.in-Some.row - 1) stack b (let f = c.stack.ensures.fine in record { once = f.once; gone = f.gone }) c.stack.ensures.value
    (ap (λ r. holds r stack) e ∙ c.in-Some.ensures.held stack c.stack.ensures.value)
    (omega (arith, e, turn_is, c.if-turn-rank.false, ap (λ r. least_ordered s.ordered (below r stack)) e)) blocks
