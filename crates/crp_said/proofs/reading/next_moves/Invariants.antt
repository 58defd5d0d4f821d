use Rattle.std.proofs.Common.{◌≡◌, ◌++◌, length}
use Rattle.crp_said.specs.Spelled.{AreMoves}
use Rattle.crp_said.proofs.reading.next_moves.Given as goal

abbrev pub invariant-loop-body : goal.invariant-loop-body
invariant-loop-body l = record { moves : AreMoves l.lines.items; text : l.bytes ≡ l.lines.items ++ l.rest }

abbrev pub decreases-loop-body : goal.decreases-loop-body
decreases-loop-body l = length l.rest
