-- The best plan of a problem that was met.
use Rattle.std.specs.Prelude.{◌≡◌, ◌<◌, length, Option, IfSome}
use Rattle.crp_plan.specs.Bay.{Problem, IsProblem}
use Rattle.crp_plan.specs.Plans.{ProblemPath}

-- a problem, and at most one plan
pub record Best : Type 0 where
  pub problem : Problem
  pub plan : Option ProblemPath

-- the problem is one, and the plan is of it
pub record IsOwn (k : Best) : Type 0 where
  pub is_problem : IsProblem k.problem
  pub of_problem : IfSome k.plan (λ plan. plan.problem ≡ k.problem)

-- a plan is of the problem, and has fewer relocations than the one that is kept, if one is
pub record IsBetterPlan (k : Best) (plan : ProblemPath) : Type 0 where
  pub of_problem : plan.problem ≡ k.problem
  pub fewer : IfSome k.plan (λ old. length plan.path < length old.path)
