-- The yard as plans leave it.
use Rattle.std.specs.Prelude.{◌≡◌, ℕ, List, [], ◌∷◌, Option, Some, MatchOption, ⊤}
use Rattle.std.specs.List.{find}
use Rattle.std.specs.Map.{lookup}
use Rattle.crp_plan.specs.Bay.{IsProblem}
use Rattle.crp_plan.specs.Faults.{IsPlanPath}
use Rattle.crp_plan.specs.BayNames.{YardBay, same_bay}
use Rattle.crp_sizes.specs.Sizes.{heights_at}
use Rattle.crp_yard.specs.declared.bay_plan.BayPlan.{BayPlan}
use Rattle.crp_yard.specs.Inventory.{Inventory, StackedBay}
use Rattle.crp_yard.specs.Ranks.{named, Leaves}

-- the stacks of a bay
abbrev pub stacks_at : List StackedBay → YardBay → Option (List (List (List ℕ)))
stacks_at bays bay = lookup (same_bay bay) bays

-- the plan's problem, its ranks read as names, is its bay as it stands in the yard
pub record IsPlanForBay (yard : Inventory) (plan : BayPlan) : Type 0 where
  pub heights : plan.plan.problem.heights ≡ heights_at yard.sizes plan.bay
  pub stands : stacks_at yard.bays plan.bay ≡ Some (named plan.names plan.plan.problem.stacks)

-- the plan is a complete one, of a problem
abbrev pub IsCompletePlan : BayPlan → Type 0
IsCompletePlan plan = IsProblem plan.plan.problem × IsPlanPath plan.plan.problem plan.plan.path

-- the plan of a bay, if there is one
abbrev pub plan_for : List BayPlan → YardBay → Option BayPlan
plan_for plans bay = find (λ plan. same_bay bay plan.bay) plans

-- these stacks are what the plan leaves
abbrev pub LeavesNamed : BayPlan → List (List (List ℕ)) → Type 0
LeavesNamed plan stacks = (ranks : List (List ℕ)) × Leaves plan.plan ranks × (stacks ≡ named plan.names ranks)

-- the bay with a plan is as the plan leaves it, and one without is the same
abbrev pub IsBayAfter : List BayPlan → StackedBay → StackedBay → Type 0
IsBayAfter plans old new = (new.0 ≡ old.0) × MatchOption (plan_for plans old.0) (new.1 ≡ old.1) (λ plan. LeavesNamed plan new.1)

-- so it is with each bay
abbrev pub AreBaysAfter : List BayPlan → List StackedBay → List StackedBay → Type 0
AreBaysAfter plans [] [] = ⊤
AreBaysAfter plans [] (new ∷ news) = ⊥
AreBaysAfter plans (old ∷ olds) [] = ⊥
AreBaysAfter plans (old ∷ olds) (new ∷ news) = IsBayAfter plans old new × AreBaysAfter plans olds news

-- the yard after the plans
pub record IsAfter (yard : Inventory) (plans : List BayPlan) (after : Inventory) : Type 0 where
  pub same_sizes : after.sizes ≡ yard.sizes
  pub bays : AreBaysAfter plans yard.bays after.bays
