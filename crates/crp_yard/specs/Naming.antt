-- Names that fit a line: those of a bay of the yard and of its containers.
use Rattle.std.specs.Prelude.{ℕ, ◌≤◌, List, All, flat_map}
use Rattle.std.specs.List.{AllByRecursion}
use Rattle.crp_plan.specs.BayNames.{IsYardBay}
use Rattle.crp_yard.specs.Inventory.{StackedBay}

-- the name of a container can stand in a line: it has no byte below 0x20
abbrev pub FitsLine : List ℕ → Type 0
FitsLine name = All (λ b. 32 ≤ b) name

-- a bay has the name of one, and the names of its containers fit a line
pub record IsNamedBay (bay : StackedBay) : Type 0 where
  pub name : IsYardBay bay.0
  pub containers : AllByRecursion FitsLine (flat_map (λ stack. stack) bay.1)
