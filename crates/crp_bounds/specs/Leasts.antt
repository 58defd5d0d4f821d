-- The least ordered ranks of stacks, and what is kept of a position that is changed in place with its bounds.
use Rattle.std.specs.Prelude.{◌≡◌, ◌<◌, ℕ, suc, min, nat_le, if◌then◌else◌, List, [], ◌∷◌, length, take, slice_get, slice_index, Some}
use Rattle.crp_plan.specs.Bay.{Position}
use Rattle.crp_bay.specs.Reached.{IsReached}
use Rattle.crp_bounds.specs.Bounds.{blocking}

-- the least ordered rank of a list; 255 where there is none
abbrev pub least_ordered : ℕ → List ℕ → ℕ
least_ordered ordered [] = 255
least_ordered ordered (x ∷ xs) = if nat_le x ordered then min x (least_ordered ordered xs) else least_ordered ordered xs

-- of each container that stands, the least ordered rank at or below it is known by its rank
pub record KnowsLeasts (leasts : List ℕ) (s : Position) : Type 0 where
  pub known : (r i : ℕ) (stack : List ℕ) → slice_get s.stacks r ≡ Some stack → i < length stack → slice_index leasts (slice_index stack i) ≡ least_ordered s.ordered (take (suc i) stack)
  pub all_ranks : length leasts ≡ 97

-- so is the blocking bound, of a position that a path leads to
pub record KnowsBounds (leasts : List ℕ) (count : ℕ) (s : Position) : Type 0 where
  pub reached : IsReached s
  pub leasts_known : KnowsLeasts leasts s
  pub blocks : count ≡ blocking s
