-- The section of the page in the order in which the ship is loaded: its turns, each with its slot, its container, where that stands, and the relocations before it.
use Rattle.std.specs.Prelude.{ℕ, Bool, true, false, ◌==◌, suc, List, [], ◌∷◌, ◌++◌, length, map, filter, flat_map, count_by, Option, Some, None, codes, decimal, if◌then◌else◌}
use Rattle.crp_plan.specs.BayNames.{YardBay}
use Rattle.crp_movins.specs.declared.order.Order.{Order}
use Rattle.crp_movins.specs.declared.slot.Slot.{Slot}
use Rattle.crp_said.specs.declared.moves.SaidMove.{SaidMove}
use Rattle.crp_said.specs.declared.moves.SaidMove.TheVariants.{Shift, Take}
use Rattle.crp_follow.specs.Faults.{is_shift}
use Rattle.crp_follow.specs.Followed.{BayFollowed}
use Rattle.crp_loading.specs.Turns.{ShipOrder, slot_for}
use Rattle.crp_loading.specs.Loading.{TurnRecord, is_turn, is_no_turn, records_of, slot_field}
use Rattle.crp_page.specs.Numbered.{numbered_text}
use Rattle.crp_page.specs.Words.{counted, place_words, code, move_in_item, move_item, bay_name}

-- the moves of a turn
abbrev pub moves_at : ℕ → List TurnRecord → List TurnRecord
moves_at n moves = filter (λ r. is_turn n r.turn) moves

-- those of none: each stands behind the last take of its bay
abbrev pub moves_behind : List TurnRecord → List TurnRecord
moves_behind moves = filter (λ r. is_no_turn r.turn) moves

-- a relocation as an item
abbrev pub relocation_item : TurnRecord → List ℕ
relocation_item r = if is_shift r.of_move.said then move_item r.of_move.said else []

-- how many of the moves are relocations
abbrev pub relocations_among : List TurnRecord → ℕ
relocations_among moves = count_by (λ r. is_shift r.of_move.said) moves

-- the bay and the place that a container is taken from
abbrev pub taken_from : YardBay → SaidMove → List ℕ
taken_from bay (Shift from to container) = []
taken_from bay (Take from container) = codes " from bay " ++ (bay_name bay ++ (codes ", " ++ place_words from))

abbrev pub taken_words : TurnRecord → List ℕ
taken_words r = taken_from r.of_move.bay r.of_move.said

-- the relocations among the moves of a turn
abbrev pub relocations_words : List TurnRecord → List ℕ
relocations_words moves =
    if relocations_among moves == 0 then codes "none" else decimal (relocations_among moves) ++ (codes "<ol>" ++ (flat_map relocation_item moves ++ codes "</ol>"))

-- what is done at a turn of these moves
abbrev pub turn_words : List TurnRecord → List ℕ
turn_words [] = codes ", not taken"
turn_words (r ∷ moves) = flat_map taken_words (r ∷ moves) ++ (codes "; relocations before it: " ++ relocations_words (r ∷ moves))

-- the item of a turn: the slot, the container, and what is done
abbrev pub turn_text : Option Slot → List ℕ → List TurnRecord → List ℕ
turn_text slot name moves = codes "<li class=\"t\"><b>" ++ (slot_field slot ++ (codes "</b> " ++ (code name ++ (turn_words moves ++ codes "</li>\n"))))

abbrev pub turn_item : List Order → List TurnRecord → ℕ → List ℕ → List ℕ
turn_item orders moves n name = turn_text (slot_for orders name) name (moves_at n moves)

-- a move of no turn, with its bay
abbrev pub behind_item : TurnRecord → List ℕ
behind_item r = move_in_item r.of_move.said ++ (codes " in bay " ++ (bay_name r.of_move.bay ++ codes "</li>\n"))

abbrev pub behind_part : List TurnRecord → List ℕ
behind_part [] = []
behind_part (r ∷ moves) = codes "<p>Behind the last take of the bay:</p><ol style=\"columns:auto;padding-left:3.5em\">\n" ++ (flat_map behind_item (r ∷ moves) ++ codes "</ol>")

-- the head of the section of so many turns
abbrev pub turns_head : ℕ → List ℕ
turns_head turns =
    codes "<section id=\"ship\"><header><h2><a href=\"#ship\">Ship&#39;s order</a></h2><p>" ++ (counted turns (codes "container")
    ++ codes ", each with its slot<a class=\"h\" href=\"#\">all bays</a></p></header><div><ol style=\"columns:auto;padding-left:3.5em\">\n")

-- the turns of these moves, and what is done behind them
abbrev pub turns_body : ShipOrder → List TurnRecord → List ℕ
turns_body ship moves =
    numbered_text (turn_item ship.orders moves) 1 ship.sequence ++ (codes "</ol>" ++ (behind_part (moves_behind moves) ++ codes "</div></section>\n"))

-- the section
abbrev pub turns_section : ShipOrder → List BayFollowed → List ℕ
turns_section ship bays = turns_head (length ship.sequence) ++ turns_body ship (records_of ship.sequence ship.orders bays)

-- where there is a ship
abbrev pub turns_part : Option ShipOrder → List BayFollowed → List ℕ
turns_part None bays = []
turns_part (Some ship) bays = turns_section ship bays

-- ---- how the turns lie in the moves that are sorted by them

-- how many of the first moves have this turn
abbrev pub leading : ℕ → List TurnRecord → ℕ
leading n [] = 0
leading n (r ∷ moves) = if is_turn n r.turn then suc (leading n moves) else 0
