-- Those so far.
use Rattle.std.proofs.Common.{◌≡◌, map, take}
use Rattle.crp_notes.specs.Slots.{slot_with}
use Rattle.crp_notes.specs.Namings.{container_placed}
use Rattle.crp_notes.proofs.slots.slots_with.Given as goal

abbrev pub invariant-loop-slot : goal.invariant-loop-slot
invariant-loop-slot l = map (λ text. text.items) l.words.items ≡ map (slot_with (map container_placed l.placed)) (map (λ slot. slot.now) (take l.slot-index l.slots))
