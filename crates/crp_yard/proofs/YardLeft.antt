-- Complete plans leave a yard as some other.
use Rattle.std.proofs.Common.{◌≡◌, ℕ, List, [], ◌∷◌, All, Option, Some, None, MatchOption, refl}
use Rattle.std.specs.List.{AllByRecursion}
use Rattle.crp_plan.specs.BayNames.{same_bay}
use Rattle.crp_yard.specs.declared.bay_plan.BayPlan.{BayPlan}
use Rattle.crp_yard.specs.Inventory.{Inventory, StackedBay}
use Rattle.crp_yard.specs.Ranks.{named}
use Rattle.crp_yard.specs.After.{IsCompletePlan, plan_for, LeavesNamed, IsBayAfter, AreBaysAfter, IsAfter}
use Rattle.crp_sizes.proofs.Lists.{each_of, found_in}

stacks_left : (plan : BayPlan) → IsCompletePlan plan → (stacks : List (List (List ℕ))) × LeavesNamed plan stacks
stacks_left plan is =
    let end = is.1.1.0 in
    (named plan.names end.stacks, (end.stacks, record { is_problem = is.0; moves = is.1.0; end = end; runs = is.1.1.1; finished = is.1.1.2; by_path = is.1.2; left = refl }, refl))

bay_left : (plans : List BayPlan) (old : StackedBay) → AllByRecursion IsCompletePlan plans → (new : StackedBay) × IsBayAfter plans old new
bay_left plans old all = by (plan_for plans old.0) refl
  where
    by : (found : Option BayPlan) → plan_for plans old.0 ≡ found → (new : StackedBay) × ((new.0 ≡ old.0) × MatchOption (plan_for plans old.0) (new.1 ≡ old.1) (λ plan. LeavesNamed plan new.1))
    by None e = rw e (old, (refl, refl))
    by (Some plan) e =
        let left = stacks_left plan (found_in IsCompletePlan (λ plan. same_bay old.0 plan.bay) plans plan all e).0 in
        rw e ((old.0, left.0), (refl, left.1))

bays_left : (plans : List BayPlan) (olds : List StackedBay) → AllByRecursion IsCompletePlan plans → (news : List StackedBay) × AreBaysAfter plans olds news
bays_left plans [] all = ([], tt)
bays_left plans (old ∷ olds) all =
    let new = bay_left plans old all in let news = bays_left plans olds all in
    (new.0 ∷ news.0, (new.1, news.1))

pub yard_left : (yard : Inventory) (plans : List BayPlan) → All IsCompletePlan plans → (left : Inventory) × IsAfter yard plans left
yard_left yard plans all =
    let news = bays_left plans yard.bays (each_of IsCompletePlan plans all) in
    (record yard { bays = news.0 }, record { same_sizes = refl; bays = news.1 })
