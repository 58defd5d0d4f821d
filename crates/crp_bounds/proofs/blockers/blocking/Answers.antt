use Rattle.std.proofs.Common.{◌∙◌, [], ap, arith}
use Rattle.crp_bounds.specs.Bounds.{blocked_in}
use Rattle.crp_bounds.proofs.Counting.{blocked_more, blocked_all, blocking_below}
use Rattle.crp_bounds.proofs.blockers.blocking.Goals as goal

pub loop-row-preserved : goal.loop-row-preserved
loop-row-preserved c = record {
  value = blocked_more c.args.position.now.place.ordered c.args.position.now.place.stacks c.loop-row.row c.loop-row.count c.blocked_containers-count.result c.stack.result.now (omega arith) c.stack.ensures.value c.loop-row.invariant.value
      (c.blocked_containers-count.ensures.value ∙ ap (λ n. blocked_in n [] c.stack.result.now) c.ordered.ensures.value);
  few = omega arith;
}

pub returns-clause-value : goal.returns-clause-value
returns-clause-value c = blocked_all c.args.position.now.place c.loop-row.row c.loop-row.count c.rows-row-end.ensures.reached (omega arith) c.loop-row.invariant.value

pub returns-clause-below_every_run : goal.returns-clause-below_every_run
returns-clause-below_every_run c =
    blocking_below c.args.position.now.place c.loop-row.count c.rows-row-end.ensures.reached (blocked_all c.args.position.now.place c.loop-row.row c.loop-row.count c.rows-row-end.ensures.reached (omega arith) c.loop-row.invariant.value)
