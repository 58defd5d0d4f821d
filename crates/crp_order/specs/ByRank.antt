-- The ranks of a bay's problem, said by what stands where.
use Rattle.std.specs.Prelude.{◌≡◌, ◌<◌, ◌≤◌, ◌⊎◌, ℕ, false, List, Option, Some, slice_get, option_and_then}
use Rattle.crp_plan.specs.Bay.{Problem}
use Rattle.crp_yard.specs.Inventory.{is_among}

-- what stands in the row with this number at the tier with this number, both from 0
abbrev pub at_place : {X : Type 0} → List (List X) → ℕ → ℕ → Option X
at_place stacks row tier = option_and_then (λ stack. slice_get stack tier) (slice_get stacks row)

-- a container of the bay: the row and the tier where it stands, from 0, and the rank that the problem has there
pub record RankedContainer (stacks : List (List (List ℕ))) (problem : Problem) : Type 0 where
  pub row : ℕ
  pub tier : ℕ
  pub container : List ℕ
  pub rank : ℕ
  pub stands : at_place stacks row tier ≡ Some container
  pub ranked : at_place problem.stacks row tier ≡ Some rank

-- Containers of the sequence have the ranks up to the number of those that leave, and one that is earlier in the sequence has the lower
-- rank. The others have ranks above it, and one in an earlier row, or at a lower tier of the same row, has the lower rank.
pub record AreRanked (sequence : List (List ℕ)) (stacks : List (List (List ℕ))) (problem : Problem) : Type 0 where
  pub leave_first : (a : RankedContainer stacks problem) (i : ℕ) → slice_get sequence i ≡ Some a.container → a.rank ≤ problem.ordered
  pub in_sequence : (a b : RankedContainer stacks problem) (i j : ℕ) → slice_get sequence i ≡ Some a.container → slice_get sequence j ≡ Some b.container → i < j → a.rank < b.rank
  pub stay_behind : (a : RankedContainer stacks problem) → is_among sequence a.container ≡ false → problem.ordered < a.rank
  pub by_row_then_tier : (a b : RankedContainer stacks problem) → is_among sequence a.container ≡ false → is_among sequence b.container ≡ false
      → (a.row < b.row) ⊎ ((a.row ≡ b.row) × (a.tier < b.tier)) → a.rank < b.rank
