use Rattle.std.proofs.Common.{◌≡◌, ◌*◌, ◌∷◌, length, take}
use Rattle.crp_plan.specs.Faults.{AreHeights}
use Rattle.crp_sizes.specs.Heights.{behind_points}
use Rattle.crp_sizes.proofs.heights.heights_in.Given as goal

abbrev pub invariant-loop-before : goal.invariant-loop-before
invariant-loop-before l = record {
  so_many : length l.heights.items ≡ l.before;
  in_range : AreHeights l.heights.items;
  so_far : behind_points l.heights.items ≡ take (2 * l.before) (46 ∷ l.text);
}
