-- Those so far.
use Rattle.std.proofs.Common.{◌≡◌, map, take}
use Rattle.crp_notes.specs.Slots.{containers_for}
use Rattle.crp_notes.specs.Namings.{container_placed}
use Rattle.crp_notes.proofs.slots.containers_for.Given as goal

abbrev pub invariant-loop-order : goal.invariant-loop-order
invariant-loop-order l = map (λ name. name.now) l.names.items ≡ containers_for (map container_placed (take l.order-index l.placed)) l.slot
