use Rattle.std.proofs.Common.{length, ap, arith}
use Rattle.crp_plan.proofs.Steps.{same_rows}
use Rattle.crp_thinning.proofs.counting.blocking.Goals as goal

pub overflow_add-count : goal.overflow_add-count
overflow_add-count c =
    let f = c.stacks-stacks.ensures.fine in let few = f.few_rows in
    omega (arith, c.loop-stack.invariant.few, c.blocked_containers-count.ensures.few, c.loop-stack-test.true, ap length c.stacks-stacks.ensures.value, same_rows c.args.track.now.place.heights c.args.track.now.place.stacks f.stacks_fit)

pub returns-clause-few : goal.returns-clause-few
returns-clause-few c =
    let f = c.stacks-stacks.ensures.fine in let few = f.few_rows in
    omega (arith, c.loop-stack.invariant.few, c.loop-stack.auto.stack-index-end, ap length c.stacks-stacks.ensures.value, same_rows c.args.track.now.place.heights c.args.track.now.place.stacks f.stacks_fit)
