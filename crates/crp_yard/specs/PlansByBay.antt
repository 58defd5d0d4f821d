-- Plans by the names of their bays. Only the clauses of private functions speak of them.
use Rattle.std.specs.Prelude.{◌≡◌, List, map}
use Rattle.std.specs.List.{AllByRecursion}
use denote.Ref.{Bor}
use Rattle.crp_plan.specs.BayNames.{YardBay}
use Rattle.crp_yard.specs.declared.bay_plan.BayPlan.{BayPlan}

-- the plans of the entries
abbrev pub plans_in : List (YardBay × Bor BayPlan) → List BayPlan
plans_in entries = map (λ entry. entry.1.now) entries

-- each plan is kept under the name of its bay
abbrev pub AreByBay : List (YardBay × Bor BayPlan) → Type 0
AreByBay entries = AllByRecursion (λ entry. entry.0 ≡ entry.1.now.bay) entries
