-- Plans by a beam search.
use Rattle.std.specs.Prelude.{ℕ, ◌≤◌, nat_lt, if◌then◌else◌, List, length, Option, None, Some}
use Rattle.crp_plan.specs.Bay.{Problem}
use Rattle.crp_plan.specs.Plans.{ProblemPath}
use Rattle.crp_search.specs.Greedy.{IsGreedyPath}

-- the path has no more relocations than the greedy plan, if there is one
abbrev pub IsNoLonger : Problem → List ℕ → Type 0
IsNoLonger p path = (greedy : List ℕ) → IsGreedyPath p greedy → length path ≤ length greedy

-- the plan with fewer relocations; where both have as many, the first
abbrev pub shorter : Option ProblemPath → Option ProblemPath → Option ProblemPath
shorter None other = other
shorter (Some plan) None = Some plan
shorter (Some plan) (Some other) = if nat_lt (length other.path) (length plan.path) then Some other else Some plan
