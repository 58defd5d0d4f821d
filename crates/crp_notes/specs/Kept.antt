-- What is kept of the bays of one size. Only the clauses of private functions speak of it.
use Rattle.std.specs.Prelude.{◌≡◌, List}
use Rattle.crp_yard.specs.Inventory.{Inventory}
use Rattle.crp_notes.specs.declared.sizes.Size.{Size}
use Rattle.crp_notes.specs.Beyond.{Planned, of_size, last_row_of, top_tier_of, planned_beyond}

-- this is kept of the bays of a size of the yard when these bays were planned
pub record IsKept (yard : Inventory) (planned : List Planned) (size : Size) : Type 0 where
  pub row : size.row ≡ last_row_of (of_size yard size.heights.items yard.bays)
  pub tier : size.tier ≡ top_tier_of (of_size yard size.heights.items yard.bays)
  pub beyond : size.beyond.items ≡ planned_beyond size.heights.items size.row size.tier planned
