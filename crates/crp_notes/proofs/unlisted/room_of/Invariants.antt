-- Those of the rows so far.
use Rattle.std.proofs.Common.{◌≡◌, ◌≤◌, ◌*◌, take}
use Rattle.crp_notes.specs.Unlisted.{room_of}
use Rattle.crp_notes.proofs.unlisted.room_of.Given as goal

abbrev pub invariant-loop-height : goal.invariant-loop-height
invariant-loop-height l = (l.room ≡ room_of (take l.height-index l.heights)) × (l.room ≤ 255 * l.height-index)
