-- The sequence of some bays alone.
use Rattle.std.specs.Prelude.{◌≡◌, ℕ, Bool, true, not, List, [], ◌∷◌, filter}
use Rattle.std.specs.List.{list_any}
use Rattle.crp_plan.specs.BayNames.{YardBay, same_bay}
use Rattle.crp_movins.specs.declared.order.Order.{Order}
use Rattle.crp_yard.specs.Inventory.{Inventory, StackedBay, stands}
use Rattle.crp_order.specs.declared.sequences.Mode.{Mode}
use Rattle.crp_order.specs.Sequences.{IsSequence}

-- a run for the bays of these names is for this bay: it has one of them, or no bay is named
abbrev pub is_chosen : List YardBay → YardBay → Bool
is_chosen [] bay = true
is_chosen (name ∷ names) bay = list_any (λ other. same_bay other bay) (name ∷ names)

-- the bays that such a run is not for
abbrev pub other_bays : List YardBay → List StackedBay → List StackedBay
other_bays names bays = filter (λ bay. not (is_chosen names bay.0)) bays

-- the sequence without the containers that stand in other bays: those of the named bays are left, and those that stand nowhere in the yard
abbrev pub of_bays : List YardBay → Inventory → List (List ℕ) → List (List ℕ)
of_bays names yard sequence = filter (λ container. not (stands (other_bays names yard.bays) container)) sequence

-- the sequence of the orders, of these bays of the yard
pub record IsSequenceOf (mode : Mode) (names : List YardBay) (yard : Inventory) (orders : List Order) (containers : List (List ℕ)) : Type 0 where
  pub whole : List (List ℕ)
  pub ordered : IsSequence mode orders whole
  pub chosen : containers ≡ of_bays names yard whole
