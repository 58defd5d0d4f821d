-- Which containers the blocking bound counts.
use Rattle.std.specs.Prelude.{◌≡◌, ◌≤◌, ◌<◌, ◌↔◌, ℕ, List, Some, slice_get, AllPairs, Contains}

-- the container at this index of the stack, from 0 at the bottom, blocks: at some index below it stands an ordered one of a lower rank
pub record Blocks (ordered : ℕ) (stack : List ℕ) (index : ℕ) : Type 0 where
  pub rank : ℕ
  pub stands : slice_get stack index ≡ Some rank
  pub under : ℕ
  pub is_under : under < index
  pub lower : ℕ
  pub stands_under : slice_get stack under ≡ Some lower
  pub is_ordered : lower ≤ ordered
  pub is_lower : lower < rank

-- the indices at which containers of the stack block, each once
pub record AreBlockers (ordered : ℕ) (stack indices : List ℕ) : Type 0 where
  pub rising : AllPairs ◌<◌ indices
  pub each : (index : ℕ) → Contains indices index ↔ Blocks ordered stack index
