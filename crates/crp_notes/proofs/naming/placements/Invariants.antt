-- What the segments so far leave in force, and the containers that are placed.
use Rattle.std.proofs.Common.{◌≡◌, ◌≤◌, ◌+◌, map}
use Rattle.crp_notes.specs.Slots.{placed_before}
use Rattle.crp_notes.specs.Messages.{IsStanding}
use Rattle.crp_notes.specs.Namings.{container_placed}
use Rattle.crp_notes.proofs.naming.placements.Given as goal

abbrev pub invariant-loop-i : goal.invariant-loop-i
invariant-loop-i l = record {
  few : l.standing.messages ≤ l.i;
  stands : IsStanding l.segments l.loading (l.i + 1) l.standing;
  placed : map container_placed l.all.items ≡ placed_before l.segments l.loading (l.i + 1);
}
