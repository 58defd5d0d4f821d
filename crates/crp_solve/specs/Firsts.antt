-- What a search for the first best plan keeps and finds, and how it is given up.
use Rattle.std.specs.Prelude.{◌≡◌, ℕ, ◌<◌, ◌≤◌, ◌⊎◌, Bool, true, List, length, All, Option, Some, None, IfSome, ⊤}
use Rattle.crp_plan.specs.declared.running.View.{View}
use Rattle.crp_plan.specs.Bay.{Problem}
use Rattle.crp_plan.specs.Plans.{ProblemPath}
use Rattle.crp_incumbent.specs.Seats.{Shared}
use Rattle.crp_tree.specs.Names.{Precedes}
use Rattle.crp_tree.specs.First.{MeetNeeds}
use Rattle.crp_tree.specs.Parts.{ProblemPart, cuts_in, IsKeptPart, Certificate, IsAbout}
use Rattle.crp_search.specs.Firsts.{IsLowerBound, MeetsOwn}
use Rattle.crp_solve.specs.declared.answer.Cause.{Cause}
use Rattle.crp_solve.specs.declared.answer.Cause.TheVariants.{Budget, Memory, Time}
use Rattle.crp_solve.specs.Answers.{branches_of, IsPlanOf}
use Rattle.crp_solve.specs.Desks.{KeepsPlan}

-- a complete plan of the problem, with k relocations
pub record IsPlanOfCount (p : Problem) (k : ℕ) (plan : ProblemPath) : Type 0 where
  pub plan_is : IsPlanOf p plan
  pub count : length plan.path ≡ k

-- a part that was searched for the first plan of k relocations: each cut meets its need by the plan that is kept, if one is
pub record IsSearchedFirst (p : Problem) (k : ℕ) (plan : Option ProblemPath) (part : ProblemPart) : Type 0 where
  pub of_problem : part.problem ≡ p
  pub kept : IsKeptPart part
  pub needs : All (MeetsOwn k plan) (cuts_in part)

-- what workers keep: no complete plan has fewer relocations than the limit at the start, and nothing was offered; their plan has just so many; and the
-- parts are searched
pub record IsKeptFirst (of : Shared) (view : View) (plan : Option ProblemPath) (parts : List ProblemPart) : Type 0 where
  pub least : IsLowerBound of.key.problem of.key.start
  pub not_offered : KeepsPlan of view None
  pub plan_is : IfSome plan (IsPlanOfCount of.key.problem of.key.start)
  pub searched : All (IsSearchedFirst of.key.problem of.key.start plan) parts

-- a plan is no later than another, if there is another: it has the same path, or one that comes before
abbrev pub IsNoLater : Option ProblemPath → Option ProblemPath → Type 0
IsNoLater plan None = ⊤
IsNoLater None (Some other) = ⊥
IsNoLater (Some plan) (Some other) = (plan.path ≡ other.path) ⊎ Precedes plan.path other.path

-- it is one of the two, and no later than either
pub record IsEarlier (plan other earlier : Option ProblemPath) : Type 0 where
  pub one : (earlier ≡ plan) ⊎ (earlier ≡ other)
  pub mine : IsNoLater earlier plan
  pub others : IsNoLater earlier other

-- the first best plan, of k relocations, with a certificate in which each cut meets its need; each branch of that was expanded
pub record IsFoundFirst (p : Problem) (budget k : ℕ) (plan : ProblemPath) (cert : Certificate) (expanded : ℕ) : Type 0 where
  pub plan_is : IsPlanOfCount p k plan
  pub about : IsAbout p cert
  pub needs : MeetNeeds (length plan.path) plan.path cert.parts
  pub enough : branches_of cert ≤ expanded
  pub within : expanded ≤ budget

-- the search was given up: where the budget is the cause, all of it is spent, and where the time is, the search is a timed one and some of it is left
abbrev pub IsGivenUp : ℕ → Bool → Cause → ℕ → Type 0
IsGivenUp budget timed Budget expanded = expanded ≡ budget
IsGivenUp budget timed Memory expanded = expanded ≤ budget
IsGivenUp budget timed Time expanded = (timed ≡ true) × (expanded < budget)
