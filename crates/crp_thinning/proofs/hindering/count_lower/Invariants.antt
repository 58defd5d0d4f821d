use Rattle.std.proofs.Common.{◌≡◌, ◌≤◌, ◌*◌, [], take, sum_by}
use Rattle.crp_thinned.specs.Hindering.{lower_blocking}
use Rattle.crp_thinning.proofs.hindering.count_lower.Given as goal

abbrev pub invariant-loop-stack : goal.invariant-loop-stack
invariant-loop-stack l = record {
  value : l.count ≡ sum_by (λ stack. lower_blocking l.ordered l.rank [] stack) (take l.stack-index l.stacks);
  few : l.count ≤ 8 * l.stack-index;
}
