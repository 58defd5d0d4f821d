-- The greedy rule of the restricted problem: where it sends the container that has to be relocated, and the plan that follows it.
use Rattle.std.specs.Prelude.{◌≡◌, ℕ, ◌+◌, ◌-◌, ◌<◌, ◌≤◌, ◌⊎◌, List, ◌∷◌, ◌++◌, Contains}
use Rattle.crp_plan.specs.Rows.{total}
use Rattle.crp_plan.specs.Bay.{Problem, Position, IsAt}
use Rattle.crp_plan.specs.Faults.{IsPlanPath}
use Rattle.crp_bay.specs.Positions.{top, source, stack_at, targets}
use Rattle.crp_tree.specs.Trees.{least}

-- the container that has to be relocated: it stands on top of the next one's stack
abbrev pub blocker : Position → ℕ
blocker s = top (stack_at s (source s))

-- the least rank that stands in a row; for an empty row, one more than the bay has containers
abbrev pub least_rank : Problem → Position → ℕ → ℕ
least_rank p s row = least (total p.stacks + 1) (stack_at s (row - 1))

-- of rows with a lower rank and a higher one, the lower is first; rows of one rank stand in their order
abbrev pub IsLower : Problem → Position → ℕ → ℕ → Type 0
IsLower p s row other = (least_rank p s row < least_rank p s other) ⊎ ((least_rank p s row ≡ least_rank p s other) × (row ≤ other))

-- the same with the higher rank first
abbrev pub IsHigher : Problem → Position → ℕ → ℕ → Type 0
IsHigher p s row other = (least_rank p s other < least_rank p s row) ⊎ ((least_rank p s row ≡ least_rank p s other) × (row ≤ other))

-- all ranks of the row are greater than the blocker, which does not block there; and of such rows it has the smallest least rank
pub record IsClosest (p : Problem) (s : Position) (row : ℕ) : Type 0 where
  pub greater : blocker s < least_rank p s row
  pub smallest : (other : ℕ) → Contains (targets s) other → blocker s < least_rank p s other → IsLower p s row other

-- the blocker blocks again in each legal row, and in this one for longest: it has the largest least rank
pub record IsLatest (p : Problem) (s : Position) (row : ℕ) : Type 0 where
  pub none_greater : (other : ℕ) → Contains (targets s) other → least_rank p s other ≤ blocker s
  pub largest : (other : ℕ) → Contains (targets s) other → IsHigher p s row other

-- the row that the rule chooses among the legal ones
pub record IsGreedyRow (p : Problem) (s : Position) (row : ℕ) : Type 0 where
  pub legal : Contains (targets s) row
  pub chosen : IsClosest p s row ⊎ IsLatest p s row

-- the path of a complete plan each of whose relocations goes where the rule sends it
pub record IsGreedyPath (p : Problem) (path : List ℕ) : Type 0 where
  pub plan : IsPlanPath p path
  pub each_row : (front : List ℕ) (row : ℕ) (rest : List ℕ) (s : Position) → path ≡ front ++ row ∷ rest → IsAt p front s → IsGreedyRow p s row

-- for a blocker, a row of the first least rank is a better place than one of the second: it does not block there, and in the other it does or the
-- rank is larger; or it blocks in both, and in the first for longer
abbrev pub IsBetter : ℕ → ℕ → ℕ → Type 0
IsBetter blocker rank other = ((blocker < rank) × ((other ≤ blocker) ⊎ (rank < other))) ⊎ ((rank ≤ blocker) × (other < rank))
