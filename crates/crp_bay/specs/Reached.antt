-- Positions that the paths of a problem lead to.
use Rattle.std.specs.Prelude.{ℕ, ◌-◌, ◌<◌, ◌≤◌, List, [], length, slice_index, slice_index_or}
use Rattle.crp_plan.specs.Bay.{Problem, IsProblem, Position, IsAt}

-- a problem has a path to the position
pub record IsReached (s : Position) : Type 0 where
  pub problem : Problem
  pub path : List ℕ
  pub is_problem : IsProblem problem
  pub is_at : IsAt problem path s

-- the row is there, and its stack is shorter than its height
pub record HasRoom (s : Position) (row : ℕ) : Type 0 where
  pub counts : 1 ≤ row
  pub there : row ≤ length s.heights
  pub shorter : length (slice_index_or s.stacks (row - 1) []) < slice_index s.heights (row - 1)
