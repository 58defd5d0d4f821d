use Rattle.std.proofs.Common.{ℕ, ◌<◌}
use Rattle.crp_bay.specs.Reached.{HasRoom}
use Rattle.crp_callers.proofs.positions.first_with_room.Given as goal

abbrev pub invariant-loop-row : goal.invariant-loop-row
invariant-loop-row l = (row : ℕ) → row < l.row → HasRoom l.position.place row → ⊥
