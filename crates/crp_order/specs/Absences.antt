-- The list of the ordered containers that are not in the yard: a header, and a record for each, in the order of the message.
use Rattle.std.specs.Prelude.{ℕ, suc, Bool, not, List, [], ◌∷◌, map, filter, codes, decimal, unwrap_or}
use Rattle.crp_movins.specs.declared.order.Order.{Order}
use Rattle.crp_yard.specs.Inventory.{Inventory, stands}
use Rattle.crp_yard.specs.Text.{text_of_records}
use Rattle.crp_order.specs.SlotDigits.{slot_text}
use Rattle.crp_order.specs.Alike.{like_in}

-- the header
abbrev pub header : List (List ℕ)
header = codes "container" ∷ codes "order" ∷ codes "slot" ∷ codes "like" ∷ []

-- an order with its number
abbrev pub Numbered : Type 0
Numbered = ℕ × Order

-- the orders with their numbers, of which the first has this one
abbrev pub numbered_from : ℕ → List Order → List Numbered
numbered_from number [] = []
numbered_from number (order ∷ orders) = (number, order) ∷ numbered_from (suc number) orders

-- the container of the order is not in the yard
abbrev pub is_absent : Inventory → Numbered → Bool
is_absent yard order = not (stands yard.bays order.1.container)

-- the record of an order: its container, its number, its slot, and the container of the yard with a name that is alike, if there is one
abbrev pub fields_of : Inventory → Numbered → List (List ℕ)
fields_of yard order = order.1.container ∷ decimal order.0 ∷ slot_text order.1.slot ∷ unwrap_or (like_in yard.bays order.1.container) [] ∷ []

-- the records of the orders, numbered from 1, whose containers are not in the yard
abbrev pub records_of : Inventory → List Order → List (List (List ℕ))
records_of yard orders = map (fields_of yard) (filter (is_absent yard) (numbered_from 1 orders))

-- the list, as csv writes records by its defaults
abbrev pub absent_text : Inventory → List Order → List ℕ
absent_text yard orders = text_of_records (header ∷ records_of yard orders)
