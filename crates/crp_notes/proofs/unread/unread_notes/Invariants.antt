-- The notes so far.
use Rattle.std.proofs.Common.{◌≡◌, map, take}
use Rattle.crp_notes.specs.Unread.{note_on}
use Rattle.crp_notes.specs.Orders.{shown}
use Rattle.crp_notes.proofs.unread.unread_notes.Given as goal

abbrev pub invariant-loop-found : goal.invariant-loop-found
invariant-loop-found l = map (λ note. note.items) l.notes.items ≡ map (note_on l.several) (map shown (take l.found-index l.found-items))
