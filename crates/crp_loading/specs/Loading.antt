-- The table of a followed report in the order in which the ship is loaded: the records of its moves by their turns, each with its turn and, where its
-- container is taken, with the slot of the ship.
use Rattle.std.specs.Prelude.{ℕ, ◌==◌, Bool, true, false, List, [], ◌∷◌, ◌++◌, length, map, filter, flat_map, Option, Some, None, option_and_then, codes}
use Rattle.std.specs.List.{range_with_len}
use Rattle.crp_movins.specs.declared.order.Order.{Order}
use Rattle.crp_movins.specs.declared.slot.Slot.{Slot}
use Rattle.crp_yard.specs.Text.{text_of_records}
use Rattle.crp_order.specs.SlotDigits.{slot_text}
use Rattle.crp_said.specs.declared.moves.SaidMove.{SaidMove}
use Rattle.crp_said.specs.declared.moves.SaidMove.TheVariants.{Shift, Take}
use Rattle.crp_follow.specs.Followed.{BayFollowed}
use Rattle.crp_follow.specs.Table.{MoveColumns, number_field, columns_of, fields_of}
use Rattle.crp_follow.specs.Table as table
use Rattle.crp_loading.specs.Turns.{turn_of, slot_for}

-- the header: that of the table of moves, and two columns more
abbrev pub header : List (List ℕ)
header = table.header ++ codes "order" ∷ codes "slot" ∷ []

-- a move in the ship's order: the turn that it belongs to, if there is one, what the table of moves says of it, and the slot of the ship that it fills
pub record TurnRecord : Type 0 where
  pub turn : Option ℕ
  pub of_move : MoveColumns
  pub slot : Option Slot

-- the turn of a move: that of the container that leaves its bay at this step, or as the next one
abbrev pub turn_at : List (List ℕ) → MoveColumns → Option ℕ
turn_at sequence c = option_and_then (turn_of sequence) c.next

-- the slot of the ship that a move fills
abbrev pub slot_at : List Order → SaidMove → Option Slot
slot_at orders (Shift from to container) = None
slot_at orders (Take from container) = slot_for orders container

-- a slot, or nothing
abbrev pub slot_field : Option Slot → List ℕ
slot_field None = []
slot_field (Some slot) = slot_text slot

-- a move with its turn and its slot
abbrev pub record_at : List (List ℕ) → List Order → MoveColumns → TurnRecord
record_at sequence orders c = record { turn = turn_at sequence c; of_move = c; slot = slot_at orders c.said }

-- its record: that of the table of moves, its turn and its slot
abbrev pub turn_fields : TurnRecord → List (List ℕ)
turn_fields r = fields_of r.of_move ++ number_field r.turn ∷ slot_field r.slot ∷ []

-- the moves of a report, bay by bay in its order
abbrev pub records_of : List (List ℕ) → List Order → List BayFollowed → List TurnRecord
records_of sequence orders bays = map (record_at sequence orders) (columns_of bays)

-- it is this turn
abbrev pub is_turn : ℕ → Option ℕ → Bool
is_turn n None = false
is_turn n (Some turn) = turn == n

-- it is none
abbrev pub is_no_turn : Option ℕ → Bool
is_no_turn None = true
is_no_turn (Some turn) = false

-- the moves of each of so many turns, one turn after the other, and then those of none; those of one turn stay as they were
abbrev pub by_turns : ℕ → List TurnRecord → List TurnRecord
by_turns turns records = flat_map (λ n. filter (λ r. is_turn n r.turn) records) (range_with_len 1 turns) ++ filter (λ r. is_no_turn r.turn) records

-- the text of the table, as csv writes records by its defaults
abbrev pub load_text : List (List ℕ) → List Order → List BayFollowed → List ℕ
load_text sequence orders bays = text_of_records (header ∷ map turn_fields (by_turns (length sequence) (records_of sequence orders bays)))
