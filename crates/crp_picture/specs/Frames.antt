-- The frames of a bay: a relocation and the run of takes behind it; takes before the first relocation are a frame of their own.
use Rattle.std.specs.Prelude.{ℕ, suc, ◌-◌, ◌==◌, Bool, ◌&&◌, ◌||◌, List, [], ◌∷◌, ◌++◌, length, take, drop, map, Option, Some, None, is_some, if◌then◌else◌}
use Rattle.crp_said.specs.declared.moves.Place.{Place}
use Rattle.crp_said.specs.declared.moves.SaidMove.{SaidMove}
use Rattle.crp_said.specs.declared.moves.SaidMove.TheVariants.{Shift, Take}
use Rattle.crp_follow.specs.declared.stated.StatedMove.{StatedMove}
use Rattle.crp_follow.specs.Crane.{Stack, with_stack, from_of}
use Rattle.crp_follow.specs.Faults.{is_shift}
use Rattle.crp_follow.specs.Stated.{moves_of}
use Rattle.crp_follow.specs.Followed.{BayFollowed}
use Rattle.crp_picture.specs.declared.cell.Kind.{Kind}
use Rattle.crp_picture.specs.declared.cell.Kind.TheVariants.{Moved, Goal, Taken}
use Rattle.crp_picture.specs.Cells.{Cell, cell_on, stack_in, cells_of}

-- ---- the rows after moves that the crane can make

-- without the highest container of the row
abbrev pub lifted : List Stack → Place → List Stack
lifted rows from = with_stack rows from.row (take (length (stack_in rows from.row) - 1) (stack_in rows from.row))

-- with a container more on top of the row
abbrev pub set_down : List Stack → Place → List ℕ → List Stack
set_down rows to container = with_stack rows to.row (stack_in rows to.row ++ container ∷ [])

-- after a move
abbrev pub made : List Stack → SaidMove → List Stack
made rows (Shift from to container) = set_down (lifted rows from) to container
made rows (Take from container) = lifted rows from

-- after moves
abbrev pub rows_after : List Stack → List SaidMove → List Stack
rows_after rows [] = rows
rows_after rows (m ∷ moves) = rows_after (made rows m) moves

-- ---- frames

-- the number of its first move, from 1; its moves, and those behind them; and the rows before it
pub record Frame : Type 0 where
  pub step : ℕ
  pub moves : List StatedMove
  pub later : List StatedMove
  pub before : List Stack

-- how many takes the moves begin with
abbrev pub takes_first : List StatedMove → ℕ
takes_first [] = 0
takes_first (m ∷ moves) = if is_shift m.said then 0 else suc (takes_first moves)

-- how many moves the frame has that the first of these begins: it and the takes behind it
abbrev pub frame_length : List StatedMove → ℕ
frame_length [] = 0
frame_length (m ∷ moves) = suc (takes_first moves)

-- the frame that the first of these moves begins, which has this number and is made over these rows
abbrev pub frame_at : ℕ → List Stack → List StatedMove → Frame
frame_at step rows moves = record { step = step; moves = take (frame_length moves) moves; later = drop (frame_length moves) moves; before = rows }

-- the same, if it begins one: the first move of all does, and each relocation
abbrev pub first_frame : ℕ → List Stack → List StatedMove → List Frame
first_frame step rows [] = []
first_frame step rows (m ∷ moves) = if (step == 1) || is_shift m.said then frame_at step rows (m ∷ moves) ∷ [] else []

-- the frames that one of these moves begins
abbrev pub frames_from : ℕ → List Stack → List StatedMove → List Frame
frames_from step rows [] = []
frames_from step rows (m ∷ moves) = first_frame step rows (m ∷ moves) ++ frames_from (suc step) (made rows m.said) moves

abbrev pub frames_of : BayFollowed → List Frame
frames_of b = frames_from 1 b.start b.stated.moves

-- the rows after a frame
abbrev pub rows_behind : Frame → List Stack
rows_behind f = rows_after f.before (moves_of f.moves)

-- ---- what a frame shows

-- the container stands at the place
abbrev pub is_at : Cell → Place → Bool
is_at c place = (c.row == place.row) && (c.tier == place.tier)

-- what is drawn where a move lifts
abbrev pub kind_of : SaidMove → Kind
kind_of (Shift from to container) = Moved
kind_of (Take from container) = Taken

-- as what a container is drawn where these moves are made
abbrev pub acting : List StatedMove → Cell → Kind
acting [] c = c.kind
acting (m ∷ moves) c = if is_at c (from_of m.said) then kind_of m.said else acting moves c

-- a container as it is drawn where these moves are made
abbrev pub shown_in : List StatedMove → Cell → Cell
shown_in moves c = record c { kind = acting moves c }

-- where a relocation puts its container, as it would stand there
abbrev pub goal_of : List SaidMove → List Stack → SaidMove → List Cell
goal_of all rows (Shift from to container) = record (cell_on all to.row (stack_in rows to.row) container) { kind = Goal } ∷ []
goal_of all rows (Take from container) = []

-- where the first of the moves puts its container, if it is a relocation
abbrev pub goals : List SaidMove → List Stack → List StatedMove → List Cell
goals all rows [] = []
goals all rows (m ∷ moves) = goal_of all rows m.said

-- the containers of a frame, where these are all moves of the bay
abbrev pub frame_cells : List SaidMove → Frame → List Cell
frame_cells all f = map (shown_in f.moves) (cells_of all f.before ++ goals all f.before f.moves)

-- the container that a move takes, if it takes one
abbrev pub taken_by : SaidMove → Option (List ℕ)
taken_by (Shift from to container) = None
taken_by (Take from container) = Some container

-- the container that is taken first by these moves, if one is
abbrev pub first_taken : List StatedMove → Option (List ℕ)
first_taken [] = None
first_taken (m ∷ moves) = if is_shift m.said then first_taken moves else taken_by m.said

-- the container for which a frame digs where it takes none: the one that is taken next
abbrev pub aimed_at : Frame → Option (List ℕ)
aimed_at f = if is_some (first_taken f.moves) then None else first_taken f.later
