-- What is kept of the bays that are listed. Only the clauses of private functions speak of it.
use Rattle.std.specs.Prelude.{ℕ, List}
use Rattle.crp_notes.specs.declared.unlisted.Room.{Room}

-- the block, and how many containers the bay holds
abbrev pub block_and_room : Room → List ℕ × ℕ
block_and_room r = (r.block.now, r.room)
