-- How a slot of the ship is written.
use Rattle.std.specs.Prelude.{ℕ, ◌+◌, ◌/◌, ◌%◌, List, [], ◌∷◌}
use Rattle.crp_movins.specs.declared.slot.Slot.{Slot}

-- the last digit of a number
abbrev pub digit : ℕ → ℕ
digit n = 48 + n % 10

-- the seven digits of a slot: three of the bay, two of the row, two of the tier
abbrev pub slot_text : Slot → List ℕ
slot_text slot =
    digit (slot.bay / 100) ∷ digit (slot.bay / 10) ∷ digit slot.bay ∷ digit (slot.row / 10) ∷ digit slot.row ∷ digit (slot.tier / 10) ∷ digit slot.tier ∷ []
