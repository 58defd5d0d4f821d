-- The first of all best plans, and the claims that show which it is.
use Rattle.std.specs.Prelude.{◌≡◌, ℕ, ◌+◌, ◌≤◌, if◌then◌else◌, List, length, All, Some}
use Rattle.std.specs.Ordering.{nat_cmp, is_lt}
use Rattle.std.specs.Cmp.Lexicographic.{slice_cmp}
use Rattle.crp_plan.specs.Bay.{Problem, IsBest}
use Rattle.crp_plan.specs.Faults.{IsPlanPath}
use Rattle.crp_tree.specs.Names.{Precedes}
use Rattle.crp_tree.specs.Trees.{Node, cuts, value}
use Rattle.crp_tree.specs.Claims.{Claimed, IsAccepted, nodes_in}
use Rattle.crp_tree.specs.Parts.{ProblemPart, cuts_in}

-- the first best plan, by its path: it is complete, no plan has fewer relocations, and the path of no plan with as many comes before its own
pub record IsFirstBest (p : Problem) (path : List ℕ) : Type 0 where
  pub plan : IsPlanPath p path
  pub best : IsBest p (length path)
  pub none_before : (other : List ℕ) → IsPlanPath p other → length other ≡ length path → Precedes other path → ⊥

-- a cut meets its need, where a plan of k relocations with this path is claimed to be the first best: its value is at least k, and at least
-- one more where the cut's path comes before the plan's
pub record MeetsNeed (k : ℕ) (plan : List ℕ) (cut : Node) : Type 0 where
  pub enough : k ≤ value cut
  pub more_before : Precedes cut.path plan → k + 1 ≤ value cut

-- the need of a cut at the path as a number, by the comparison of names
abbrev pub need_at : ℕ → List ℕ → List ℕ → ℕ
need_at k plan path = if is_lt (slice_cmp nat_cmp path plan) then k + 1 else k

-- a claim that is accepted as one of the first best plan: it is accepted, it has the plan of this path, of as many relocations as its bound,
-- and each cut of its parts meets its need
pub record IsFirstAccepted (claim : Claimed) (path : List ℕ) : Type 0 where
  pub accepted : IsAccepted claim
  pub plan_is : claim.plan ≡ Some path
  pub count : length path ≡ claim.lower
  pub each_need : All (λ part. All (MeetsNeed claim.lower path) (cuts (nodes_in claim.problem part))) claim.parts

-- each cut of these parts of a problem meets its need
abbrev pub MeetNeeds : ℕ → List ℕ → List ProblemPart → Type 0
MeetNeeds k plan parts = All (λ part. All (MeetsNeed k plan) (cuts_in part)) parts
