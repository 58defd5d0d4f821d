use Rattle.std.proofs.Common.{◌≡◌, ◌-◌, ◌≤◌, length, filter}
use Rattle.crp_bay.specs.Positions.{can_shift, counted}
use Rattle.crp_bay.proofs.position.Position.targets.Given as goal

abbrev pub invariant-loop-row : goal.invariant-loop-row
invariant-loop-row l = record {
  value : l.targets.items ≡ filter (can_shift l.self.place) (counted 1 (l.row - 1));
  few : length l.targets.items ≤ l.row - 1;
}
