-- The lines so far, what they come to, and the rest.
use Rattle.std.proofs.Common.{◌≡◌, ◌+◌, ◌≤◌, ◌++◌, ℕ, List, length}
use Rattle.std.specs.Prelude.{flat_map}
use Rattle.std.specs.List.{AllByRecursion}
use Rattle.crp_said.specs.Spelled.{ended}
use Rattle.crp_said.specs.Completed.{IsOneLine}
use Rattle.crp_said.specs.Tallied.{AreTallied}
use Rattle.crp_said.proofs.completing.tally_of.Given as goal

abbrev pub invariant-loop-line : goal.invariant-loop-line
invariant-loop-line l = record {
  lines : (lines : List (List ℕ)) × AllByRecursion IsOneLine lines × (l.report ≡ flat_map ended lines ++ l.rest) × AreTallied lines l.tally;
  room : l.tally.bays + length l.rest ≤ length l.report;
  few : l.tally.settled ≤ l.tally.bays;
}

abbrev pub decreases-loop-line : goal.decreases-loop-line
decreases-loop-line l = length l.rest
