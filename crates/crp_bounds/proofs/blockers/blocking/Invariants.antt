use Rattle.std.proofs.Common.{◌≡◌, ◌≤◌, ◌*◌, ◌-◌, [], take, sum_by}
use Rattle.crp_bounds.specs.Bounds.{blocked_in}
use Rattle.crp_bounds.proofs.blockers.blocking.Given as goal

abbrev pub invariant-loop-row : goal.invariant-loop-row
invariant-loop-row l = record {
  value : l.count ≡ sum_by (λ stack. blocked_in l.position.place.ordered [] stack) (take (l.row - 1) l.position.place.stacks);
  few : l.count ≤ 8 * (l.row - 1);
}
