use Rattle.std.proofs.Common.{◌≡◌, ◌≤◌, ◌*◌, [], take, sum_by}
use Rattle.crp_bounds.specs.Bounds.{blocked_in}
use Rattle.crp_thinning.proofs.counting.blocking.Given as goal

abbrev pub invariant-loop-stack : goal.invariant-loop-stack
invariant-loop-stack l = record {
  value : l.count ≡ sum_by (λ stack. blocked_in l.ordered [] stack) (take l.stack-index l.stacks);
  few : l.count ≤ 8 * l.stack-index;
}
