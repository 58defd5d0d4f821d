use Rattle.std.proofs.Common.{◌≡◌, ◌≤◌, drop, length}
use Rattle.crp_bounds.specs.Leasts.{least_ordered}
use Rattle.crp_thinning.proofs.scanning.least_of.Given as goal

abbrev pub invariant-loop-left : goal.invariant-loop-left
invariant-loop-left l = record {
  within : l.left ≤ length l.stack;
  value : l.least ≡ least_ordered l.ordered (drop l.left l.stack);
}

abbrev pub decreases-loop-left : goal.decreases-loop-left
decreases-loop-left l = l.left
