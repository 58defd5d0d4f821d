-- Those of the bays so far.
use Rattle.std.proofs.Common.{◌≡◌, map, take}
use Rattle.crp_notes.specs.Unlisted.{left_out}
use Rattle.crp_notes.specs.Rooms.{block_and_room}
use Rattle.crp_notes.proofs.unlisted.left_out.Given as goal

abbrev pub invariant-loop-bay : goal.invariant-loop-bay
invariant-loop-bay l = map (λ name. name.now) l.names.items ≡ left_out l.yard (map block_and_room l.rooms) (take l.bay l.yard.bays)
