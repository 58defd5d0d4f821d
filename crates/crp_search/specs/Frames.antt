-- A branch whose legal rows are searched in turn.
use Rattle.std.specs.Prelude.{◌≡◌, ℕ, zero, suc, ◌/◌, ◌%◌, ◌==◌, if◌then◌else◌, List, [], ◌∷◌}
use Rattle.crp_bounds.specs.declared.mover.Mover.{Mover}

-- the container that moves there, the rows that had no turn yet, rising, and how many rows are legal in all
pub record Branching : Type 0 where
  pub mover : Mover
  pub left : List ℕ
  pub count : ℕ

-- the digits of a number to the base 16, at most so many, the lowest first, down to where nothing is left
abbrev pub digits : ℕ → ℕ → List ℕ
digits zero n = []
digits (suc most) n = if n == 0 then [] else n % 16 ∷ digits most (n / 16)

-- a row has its turn
pub record TakesTurn (f g : Branching) (row : ℕ) : Type 0 where
  pub left : f.left ≡ row ∷ g.left
  pub mover : g.mover ≡ f.mover
  pub count : g.count ≡ f.count
