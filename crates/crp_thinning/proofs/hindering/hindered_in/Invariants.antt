use Rattle.std.proofs.Common.{◌≡◌, ◌≤◌, ℕ, List, [], take}
use Rattle.crp_bounds.specs.Bounds.{holds_lower}
use Rattle.crp_bounds.specs.Leasts.{least_ordered}
use Rattle.crp_thinned.specs.Hindering.{hindered}
use Rattle.crp_thinning.proofs.hindering.hindered_in.Given as goal

abbrev pub invariant-loop-i : goal.invariant-loop-i
invariant-loop-i l = record {
  value : (onto : List ℕ) → l.least ≡ least_ordered l.ordered onto → l.count ≡ hindered l.ordered l.rank onto [] (take l.i l.stack);
  few : l.count ≤ l.i;
  lower : l.lower ≡ holds_lower l.ordered l.rank (take l.i l.stack);
}
