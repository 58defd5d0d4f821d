-- What a planner chooses for a run.
use Rattle.std.specs.Prelude.{ℕ, ◌≤◌, List}
use Rattle.crp_plan.specs.Faults.{HasTiers}
use Rattle.crp_plan.specs.BayNames.{YardBay}
use Rattle.crp_movins.specs.Loading.{Loading}
use Rattle.crp_sizes.specs.Sizes.{YardSizes}
use Rattle.crp_order.specs.declared.sequences.Mode.{Mode}
use Rattle.crp_solve.specs.Chosen.{Chosen}
use Rattle.crp_report.specs.declared.settings.RunFault.{RunFault}
use Rattle.crp_report.specs.declared.settings.RunFault.TheVariants.{Rows, Tiers, Heights, Memory}

-- what the input means: the sizes of the bays, how the orders are put in sequence, what is read of the message, and the bays that the run is
-- for, where none stands for all
pub record InputChosen : Type 0 where
  pub sizes : YardSizes
  pub mode : Mode
  pub loading : Loading
  pub bays : List YardBay

-- the settings of the search and of the input
pub record RunChosen : Type 0 where
  pub search : Chosen
  pub input : InputChosen

-- so many rows can be chosen
abbrev pub IsRowCount : ℕ → Type 0
IsRowCount rows = (1 ≤ rows) × (rows ≤ 12)

-- why settings with so many rows of so many tiers are refused: for the rows, or for the tiers where the rows are right; memory runs out only where
-- both are
abbrev pub IsRunFault : ℕ → ℕ → RunFault → Type 0
IsRunFault rows tiers Rows = ¬ IsRowCount rows
IsRunFault rows tiers Tiers = IsRowCount rows × ¬ HasTiers tiers
IsRunFault rows tiers Heights = ⊥
IsRunFault rows tiers Memory = IsRowCount rows × HasTiers tiers
