-- The lines so far state the moves so far.
use Rattle.std.proofs.Common.{◌≡◌, ◌++◌, length}
use Rattle.std.specs.List.{AllByRecursion}
use Rattle.crp_said.specs.Spelled.{CanBeStated}
use Rattle.crp_json.specs.Entries.{moves_text}
use Rattle.crp_json.proofs.reading.read_moves.Given as goal

abbrev pub invariant-loop-line : goal.invariant-loop-line
invariant-loop-line l = record {
  stated : AllByRecursion CanBeStated l.moves.items;
  text : l.fn.text ≡ moves_text l.moves.items ++ l.rest;
}

abbrev pub decreases-loop-line : goal.decreases-loop-line
decreases-loop-line l = length l.rest
