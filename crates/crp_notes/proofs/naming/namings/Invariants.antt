-- What the segments so far leave in force, and the slots that are named.
use Rattle.std.proofs.Common.{◌≡◌, ◌≤◌, ◌+◌, map}
use Rattle.crp_notes.specs.Slots.{named_before}
use Rattle.crp_notes.specs.Messages.{IsStanding}
use Rattle.crp_notes.specs.Namings.{named}
use Rattle.crp_notes.proofs.naming.namings.Given as goal

abbrev pub invariant-loop-i : goal.invariant-loop-i
invariant-loop-i l = record {
  few : l.standing.messages ≤ l.i;
  stands : IsStanding l.segments l.loading (l.i + 1) l.standing;
  named : map named l.namings.items ≡ named_before l.segments l.loading (l.i + 1);
}
