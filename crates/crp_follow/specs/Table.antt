-- The table of the moves of a report that is followed: a header, and a record for each move, bay by bay in the order of the report.
use Rattle.std.specs.Prelude.{ℕ, suc, ◌-◌, ◌≤◌, nat_le, List, [], ◌∷◌, length, map, flat_map, sum_by, count_by, Option, Some, None, option_map, codes, decimal, if◌then◌else◌}
use Rattle.std.specs.Str.{bytes_eq}
use Rattle.csv.specs.Writing.{default_writer, row_text}
use Rattle.crp_plan.specs.BayNames.{YardBay}
use Rattle.crp_yard.specs.Text.{text_of_records}
use Rattle.crp_said.specs.declared.moves.Place.{Place}
use Rattle.crp_said.specs.declared.moves.SaidMove.{SaidMove}
use Rattle.crp_said.specs.declared.moves.SaidMove.TheVariants.{Shift, Take}
use Rattle.crp_follow.specs.Crane.{Stack, from_of, container_of}
use Rattle.crp_follow.specs.Stated.{moves_of}
use Rattle.crp_follow.specs.Followed.{BayFollowed}

-- the header
abbrev pub header : List (List ℕ)
header =
    codes "block" ∷ codes "bay" ∷ codes "step" ∷ codes "move" ∷ codes "container" ∷ codes "from_row" ∷ codes "from_tier" ∷ codes "to_row" ∷ codes "to_tier" ∷ codes "leaves" ∷ codes "for"
    ∷ codes "left" ∷ []

-- the containers that leave, each with its step: the moves are numbered from this one
abbrev pub takes_from : ℕ → List SaidMove → List (ℕ × List ℕ)
takes_from step [] = []
takes_from step (Shift from to container ∷ moves) = takes_from (suc step) moves
takes_from step (Take from container ∷ moves) = (step, container) ∷ takes_from (suc step) moves

-- the step at which the container leaves, if it does
abbrev pub leaves_at : List (ℕ × List ℕ) → List ℕ → Option ℕ
leaves_at [] container = None
leaves_at (t ∷ takes) container = if bytes_eq t.1 container then Some t.0 else leaves_at takes container

-- the container that leaves at this step, or as the next one
abbrev pub next_to_leave : List (ℕ × List ℕ) → ℕ → Option (List ℕ)
next_to_leave [] step = None
next_to_leave (t ∷ takes) step = if nat_le step t.0 then Some t.1 else next_to_leave takes step

-- how many containers stand in the rows
abbrev pub standing : List Stack → ℕ
standing rows = sum_by length rows

-- how many of so many are left behind this step
abbrev pub left_behind : ℕ → List (ℕ × List ℕ) → ℕ → ℕ
left_behind count takes step = count - count_by (λ t. nat_le t.0 step) takes

-- a number, or nothing
abbrev pub number_field : Option ℕ → List ℕ
number_field None = []
number_field (Some number) = decimal number

-- a container, or nothing
abbrev pub container_field : Option (List ℕ) → List ℕ
container_field None = []
container_field (Some container) = container

-- the word of a move, and where it sets its container down, if it does
abbrev pub word_of : SaidMove → List ℕ
word_of (Shift from to container) = codes "shift"
word_of (Take from container) = codes "take"

abbrev pub to_of : SaidMove → Option Place
to_of (Shift from to container) = Some to
to_of (Take from container) = None

-- what the table says of a move: its bay and its step there, the move, the step at which its container leaves, the container that leaves next, and how many are left
pub record MoveColumns : Type 0 where
  pub bay : YardBay
  pub step : ℕ
  pub said : SaidMove
  pub leaves : Option ℕ
  pub next : Option (List ℕ)
  pub left : ℕ

-- what it says of the move at this step, where these leave the bay, of so many containers
abbrev pub columns_at : YardBay → ℕ → List (ℕ × List ℕ) → ℕ → SaidMove → MoveColumns
columns_at bay count takes step m = record {
  bay = bay;
  step = step;
  said = m;
  leaves = leaves_at takes (container_of m);
  next = next_to_leave takes step;
  left = left_behind count takes step;
}

-- what it says of moves that are numbered from this step
abbrev pub columns_from : YardBay → ℕ → List (ℕ × List ℕ) → ℕ → List SaidMove → List MoveColumns
columns_from bay count takes step [] = []
columns_from bay count takes step (m ∷ moves) = columns_at bay count takes step m ∷ columns_from bay count takes (suc step) moves

-- what it says of the moves of a bay
abbrev pub columns_in : BayFollowed → List MoveColumns
columns_in b = columns_from b.stated.bay (standing b.start) (takes_from 1 (moves_of b.stated.moves)) 1 (moves_of b.stated.moves)

-- what it says of the moves of a report, bay by bay in its order
abbrev pub columns_of : List BayFollowed → List MoveColumns
columns_of bays = flat_map columns_in bays

-- the record of a move
abbrev pub fields_of : MoveColumns → List (List ℕ)
fields_of c =
    c.bay.block ∷ decimal c.bay.bay ∷ decimal c.step ∷ word_of c.said ∷ container_of c.said ∷ decimal (from_of c.said).row ∷ decimal (from_of c.said).tier
    ∷ number_field (option_map (λ p. p.row) (to_of c.said)) ∷ number_field (option_map (λ p. p.tier) (to_of c.said)) ∷ number_field c.leaves ∷ container_field c.next ∷ decimal c.left ∷ []

-- the text of a record, as csv writes it by its defaults
abbrev pub record_text : List (List ℕ) → List ℕ
record_text fields = row_text default_writer fields

-- the records of a report
abbrev pub records_of : List BayFollowed → List (List (List ℕ))
records_of bays = map fields_of (columns_of bays)

-- the text of the table, as csv writes records by its defaults
abbrev pub table_text : List BayFollowed → List ℕ
table_text bays = text_of_records (header ∷ records_of bays)

-- no more containers than a bay of a yard can have
abbrev pub StandFew : BayFollowed → Type 0
StandFew b = standing b.start ≤ 96
