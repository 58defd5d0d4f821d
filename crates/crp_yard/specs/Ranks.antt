-- Ranks of a bay read as the names of its containers, and the bay that a plan leaves.
use Rattle.std.specs.Prelude.{◌≡◌, ℕ, ◌-◌, List, [], map, slice_get, unwrap_or}
use Rattle.crp_plan.specs.declared.moves.Move.{Move}
use Rattle.crp_plan.specs.Bay.{IsProblem, Position, Runs, IsFinished, start, path_of}
use Rattle.crp_plan.specs.Plans.{ProblemPath}

-- the name of a rank, where names stand by rank from 1
abbrev pub name_of_rank : List (List ℕ) → ℕ → List ℕ
name_of_rank names rank = unwrap_or (slice_get names (rank - 1)) []

-- stacks of ranks, read as names
abbrev pub named : List (List ℕ) → List (List ℕ) → List (List (List ℕ))
named names stacks = map (λ stack. map (name_of_rank names) stack) stacks

-- the stacks that a plan leaves: it is for a problem, and its moves lead from the start to a finished position with them
pub record Leaves (plan : ProblemPath) (stacks : List (List ℕ)) : Type 0 where
  pub is_problem : IsProblem plan.problem
  pub moves : List Move
  pub end : Position
  pub runs : Runs (start plan.problem) moves end
  pub finished : IsFinished end
  pub by_path : path_of moves ≡ plan.path
  pub left : stacks ≡ end.stacks
