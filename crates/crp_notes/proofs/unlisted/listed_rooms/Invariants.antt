-- Those of the bays so far.
use Rattle.std.proofs.Common.{◌≡◌, map, take}
use Rattle.crp_notes.specs.Unlisted.{listed_rooms}
use Rattle.crp_notes.specs.Rooms.{block_and_room}
use Rattle.crp_notes.proofs.unlisted.listed_rooms.Given as goal

abbrev pub invariant-loop-bay : goal.invariant-loop-bay
invariant-loop-bay l = map block_and_room l.rooms.items ≡ listed_rooms l.yard (take l.bay l.yard.bays)
