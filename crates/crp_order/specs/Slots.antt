-- Slots of the ship that stand one over the other.
use Rattle.std.specs.Prelude.{◌≡◌, ◌<◌, ◌+◌, ◌%◌, ◌⊎◌, ℕ}
use Rattle.crp_movins.specs.declared.slot.Slot.{Slot}

-- the cells of 20 feet have the odd numbers of bays
abbrev pub IsCell : ℕ → Type 0
IsCell cell = cell % 2 ≡ 1

-- a bay covers a cell of 20 feet: an odd bay is the cell itself, an even bay lies over the cells before and behind it (bay 0 over cell 1 alone)
abbrev pub Covers : ℕ → ℕ → Type 0
Covers bay cell = IsCell cell × ((cell ≡ bay) ⊎ (cell + 1 ≡ bay) ⊎ (cell ≡ bay + 1))

-- there is a cell that both bays cover
abbrev pub ShareCell : ℕ → ℕ → Type 0
ShareCell a b = (cell : ℕ) × Covers a cell × Covers b cell

-- slot a is beneath slot b: in the same row, in a lower tier, and in bays that both cover some cell
pub record IsBeneath (a b : Slot) : Type 0 where
  pub same_row : a.row ≡ b.row
  pub lower_tier : a.tier < b.tier
  pub same_cell : ShareCell a.bay b.bay
