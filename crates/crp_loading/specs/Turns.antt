-- When the ship gets a container, and where: its turn in the sequence, and its slot.
use Rattle.std.specs.Prelude.{ℕ, suc, List, [], ◌∷◌, Option, Some, None, if◌then◌else◌}
use Rattle.std.specs.Str.{bytes_eq}
use Rattle.crp_movins.specs.declared.order.Order.{Order}
use Rattle.crp_movins.specs.Headings.{Heading}
use Rattle.crp_movins.specs.declared.slot.Slot.{Slot}

-- the number of the container in a list whose first has this number, if it stands there
abbrev pub number_from : ℕ → List (List ℕ) → List ℕ → Option ℕ
number_from first [] container = None
number_from first (name ∷ names) container = if bytes_eq name container then Some first else number_from (suc first) names container

-- its turn: its place in the sequence, from 1
abbrev pub turn_of : List (List ℕ) → List ℕ → Option ℕ
turn_of sequence container = number_from 1 sequence container

-- the slot of the ship to which it is ordered
abbrev pub slot_for : List Order → List ℕ → Option Slot
slot_for [] container = None
slot_for (order ∷ orders) container = if bytes_eq order.container container then Some order.slot else slot_for orders container

-- the order of the ship: the sequence in which it gets its containers, their orders, and what the message says of the ship
pub record ShipOrder : Type 0 where
  pub sequence : List (List ℕ)
  pub orders : List Order
  pub heading : Heading
