-- What the page says in words: numbers of things, places, containers, moves, bays and verdicts.
use Rattle.std.specs.Prelude.{ℕ, ◌==◌, List, [], ◌∷◌, ◌++◌, flat_map, Option, Some, None, codes, decimal, if◌then◌else◌}
use Rattle.crp_plan.specs.BayNames.{YardBay}
use Rattle.crp_said.specs.declared.said.Said.{Said}
use Rattle.crp_said.specs.declared.said.Said.TheVariants.{Optimal, First, NoPlan, Between, Outside}
use Rattle.crp_said.specs.declared.moves.Place.{Place}
use Rattle.crp_said.specs.declared.moves.SaidMove.{SaidMove}
use Rattle.crp_said.specs.declared.moves.SaidMove.TheVariants.{Shift, Take}
use Rattle.crp_said.specs.Said.{said_words}
use Rattle.crp_movins.specs.declared.slot.Slot.{Slot}
use Rattle.crp_order.specs.SlotDigits.{slot_text}
use Rattle.crp_follow.specs.Crane.{Stack}
use Rattle.crp_loading.specs.Turns.{ShipOrder}
use Rattle.crp_loading.specs.Loading.{slot_at}
use Rattle.crp_picture.specs.Names.{front_of, last_four, escaped}
use Rattle.crp_page.specs.Numbered.{numbered_text}

-- a number of things, of which one is called so
abbrev pub counted : ℕ → List ℕ → List ℕ
counted n one = decimal n ++ (32 ∷ (one ++ (if n == 1 then [] else codes "s")))

-- a place: its row, and its tier
abbrev pub place_words : Place → List ℕ
place_words p = decimal p.row ++ (46 ∷ decimal p.tier)

-- a container, its last four bytes in bold
abbrev pub code_of : List ℕ → List ℕ → List ℕ
code_of front last = codes "<code>" ++ (escaped front ++ (codes "<b>" ++ (escaped last ++ codes "</b></code>")))

abbrev pub code : List ℕ → List ℕ
code name = code_of (front_of name) (last_four name)

-- a move as an item of a list
abbrev pub lifted_words : List ℕ → Place → List ℕ
lifted_words container from = code container ++ (codes " from " ++ place_words from)

abbrev pub move_in_item : SaidMove → List ℕ
move_in_item (Shift from to container) = codes "<li>shift " ++ (lifted_words container from ++ (codes " to " ++ place_words to))
move_in_item (Take from container) = codes "<li class=\"t\">take " ++ lifted_words container from

abbrev pub move_item : SaidMove → List ℕ
move_item m = move_in_item m ++ codes "</li>"

-- the slot of the ship that a move fills, where there is a ship
abbrev pub slot_of : Option ShipOrder → SaidMove → Option Slot
slot_of None m = None
slot_of (Some ship) m = slot_at ship.orders m

abbrev pub slot_words : Option Slot → List ℕ
slot_words None = []
slot_words (Some slot) = codes " to slot " ++ slot_text slot

-- a move as an item, with the slot that it fills
abbrev pub move_to_slot : Option ShipOrder → SaidMove → List ℕ
move_to_slot ship m = move_in_item m ++ (slot_words (slot_of ship m) ++ codes "</li>")

-- the name of a bay
abbrev pub bay_name : YardBay → List ℕ
bay_name bay = escaped bay.block ++ (32 ∷ decimal bay.bay)

-- of which kind a verdict is
abbrev pub kind_of : Said → List ℕ
kind_of (Optimal count) = codes "vo"
kind_of (First count) = codes "vo"
kind_of NoPlan = codes "vn"
kind_of (Between lower upper why) = codes "vb"
kind_of (Outside count) = codes "vb"

-- a verdict: the words of the report, and that it is the report that says so
abbrev pub verdict : Said → List ℕ
verdict said = codes "<span class=\"" ++ (kind_of said ++ (codes "\">" ++ (said_words said ++ codes "</span>, as the report says")))

-- what stands in a row
abbrev pub stack_words : Stack → List ℕ
stack_words [] = codes "empty"
stack_words (name ∷ above) = escaped name ++ flat_map (λ n. codes ", " ++ escaped n) above

-- the row with this number
abbrev pub row_words : ℕ → Stack → List ℕ
row_words r stack = codes " Row " ++ (decimal r ++ (codes ": " ++ (stack_words stack ++ codes ".")))

-- what stands in all rows
abbrev pub rows_words : List Stack → List ℕ
rows_words rows = numbered_text row_words 1 rows
