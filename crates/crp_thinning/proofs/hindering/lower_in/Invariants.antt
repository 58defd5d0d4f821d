use Rattle.std.proofs.Common.{◌≡◌, ◌≤◌, [], take}
use Rattle.crp_bounds.specs.Leasts.{least_ordered}
use Rattle.crp_thinned.specs.Hindering.{lower_blocking}
use Rattle.crp_thinning.proofs.hindering.lower_in.Given as goal

abbrev pub invariant-loop-i : goal.invariant-loop-i
invariant-loop-i l = record {
  value : l.count ≡ lower_blocking l.ordered l.rank [] (take l.i l.stack);
  few : l.count ≤ l.i;
  least : l.least ≡ least_ordered l.ordered (take l.i l.stack);
}
