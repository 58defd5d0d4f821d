-- The turns so far are added, and the moves of the others are left.
use Rattle.std.proofs.Common.{◌≡◌, ◌≤◌, List, length, map}
use Rattle.crp_loading.specs.Loading.{TurnRecord, by_turns}
use Rattle.crp_loading.specs.Views.{recorded}
use Rattle.crp_page.proofs.Walking.{IsSoFar}
use Rattle.crp_page.proofs.turns.push_turns.Given as goal

abbrev pub invariant-loop-i : goal.invariant-loop-i
invariant-loop-i l = record {
  so : (records : List TurnRecord) → map recorded l.moves ≡ by_turns (length l.ship.sequence) records → IsSoFar l.ship records l.initial.text.items l.text.items l.rest l.i;
  few : length l.rest ≤ length l.moves;
}
