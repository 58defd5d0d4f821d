-- Why a report cannot be followed over a yard: the first fault, of its text and else of its bays in their order.
use Rattle.std.specs.Prelude.{◌≡◌, ◌⊎◌, ℕ, Bool, true, false, List, [], ◌∷◌, ◌++◌, map, count_by, Option, Some, None, MatchOption, IsSome}
use Rattle.std.specs.List.{AllByRecursion, IsDistinct, list_any}
use Rattle.std.specs.Map.{lookup}
use Rattle.crp_plan.specs.BayNames.{YardBay, same_bay}
use Rattle.crp_sizes.specs.Sizes.{heights_at}
use Rattle.crp_yard.specs.Inventory.{Inventory}
use Rattle.crp_said.specs.declared.numbers.Numbers.{Numbers}
use Rattle.crp_said.specs.Said.{count_said}
use Rattle.crp_said.specs.declared.moves.SaidMove.{SaidMove}
use Rattle.crp_said.specs.declared.moves.SaidMove.TheVariants.{Shift, Take}
use Rattle.crp_follow.specs.declared.fault.FollowFault.{FollowFault}
use Rattle.crp_follow.specs.declared.fault.FollowFault.TheVariants as fault
use Rattle.crp_follow.specs.Crane.{Stack, Leads}
use Rattle.crp_follow.specs.MoveFaults.{StopsWith}
use Rattle.crp_follow.specs.TextFaults.{IsTextFault}
use Rattle.crp_follow.specs.Stated.{BayStated, moves_of, States}

-- ---- a bay

-- what stands in the bay of this name, if the yard has one
abbrev pub rows_in : Inventory → YardBay → Option (List Stack)
rows_in yard bay = lookup (same_bay bay) yard.bays

-- one of the bays has this name
abbrev pub is_named : List BayStated → YardBay → Bool
is_named before bay = list_any (λ b. same_bay b.bay bay) before

-- it is a relocation
abbrev pub is_shift : SaidMove → Bool
is_shift (Shift from to container) = true
is_shift (Take from container) = false

-- as many relocations are below the line as it says; no moves are where it says that there is no plan
abbrev pub CountsShifts : BayStated → Type 0
CountsShifts b = MatchOption (count_said b.said) (b.moves ≡ []) (λ count. count_by is_shift (moves_of b.moves) ≡ count)

-- the first fault of a bay behind these: the yard has no such bay, it has a line already, its line counts other relocations, or a move of it
abbrev pub IsBayFault : Inventory → List BayStated → BayStated → FollowFault → Type 0
IsBayFault yard before b (fault.NoBay line) = (line ≡ b.line) × (rows_in yard b.bay ≡ None)
IsBayFault yard before b (fault.Again line) = (line ≡ b.line) × IsSome (rows_in yard b.bay) × (is_named before b.bay ≡ true)
IsBayFault yard before b (fault.Relocations line) = (line ≡ b.line) × IsSome (rows_in yard b.bay) × (is_named before b.bay ≡ false) × ¬ CountsShifts b
IsBayFault yard before b f =
    (start : List Stack) × (rows_in yard b.bay ≡ Some start) × (is_named before b.bay ≡ false) × CountsShifts b × StopsWith (heights_at yard.sizes b.bay) start b.moves f

-- ---- the whole

-- a bay of the yard whose line counts its relocations, and whose moves the crane can make from this start to this end, over rows of the bay's own heights
pub record LeadsIn (yard : Inventory) (b : BayStated) (start after : List Stack) : Type 0 where
  pub stands : rows_in yard b.bay ≡ Some start
  pub counts : CountsShifts b
  pub leads : Leads (heights_at yard.sizes b.bay) start (moves_of b.moves) after

-- the bays before it are followed, each of another name, and then comes the fault
pub record IsBaysFault (yard : Inventory) (bays : List BayStated) (f : FollowFault) : Type 0 where
  pub before : List BayStated
  pub bay : BayStated
  pub later : List BayStated
  pub bays_are : bays ≡ before ++ bay ∷ later
  pub once : IsDistinct same_bay (map (λ b. b.bay) before)
  pub each : AllByRecursion (λ b. (start : List Stack) × (after : List Stack) × LeadsIn yard b start after) before
  pub wrong : IsBayFault yard before bay f

-- the first fault of a report: of its text, and else of its bays
abbrev pub IsFirstFault : Inventory → List ℕ → FollowFault → Type 0
IsFirstFault yard text f = IsTextFault text f ⊎ ((numbers : Numbers) × (bays : List BayStated) × States text numbers bays × IsBaysFault yard bays f)
