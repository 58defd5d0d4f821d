-- The lines of moves: `shift FROM TO CONTAINER` and `take FROM CONTAINER`, where a place is its row and its tier joined by a point.
-- Each line ends with LF.
use Rattle.std.specs.Prelude.{◌≡◌, ℕ, zero, suc, ◌-◌, List, [], ◌∷◌, ◌++◌, length, slice_get, slice_index, unwrap_or, codes, decimal}
use Rattle.crp_plan.specs.declared.moves.Move.{Move}
use Rattle.crp_plan.specs.declared.moves.Move.TheVariants.{Shift, Take}
use Rattle.crp_plan.specs.Bay.{Position, Legal}
use Rattle.crp_yard.specs.Ranks.{name_of_rank}
use Rattle.crp_said.specs.declared.moves.Place.{Place}
use Rattle.crp_said.specs.declared.moves.SaidMove.{SaidMove}
use Rattle.crp_said.specs.declared.moves.SaidMove.TheVariants as said

-- what stands in a row, from bottom to top
abbrev pub row_stack : Position → ℕ → List ℕ
row_stack s row = unwrap_or (slice_get s.stacks (row - 1)) []

-- the rank of the container on top
abbrev pub top_of : List ℕ → ℕ
top_of stack = slice_index stack (length stack - 1)

-- each rank's number as its name
abbrev pub rank_names : ℕ → List (List ℕ)
rank_names zero = []
rank_names (suc n) = rank_names n ++ decimal (suc n) ∷ []

-- a space and a place
abbrev pub spaced_place : Place → List ℕ
spaced_place p = 32 ∷ (decimal p.row ++ 46 ∷ decimal p.tier)

-- a move in words
abbrev pub move_words : SaidMove → List ℕ
move_words (said.Shift from to container) = codes "shift" ++ (spaced_place from ++ (spaced_place to ++ 32 ∷ container))
move_words (said.Take from container) = codes "take" ++ (spaced_place from ++ 32 ∷ container)

-- a move that is made in a position: where the container stands, where a relocation puts it, and which it is
abbrev pub move_said : List (List ℕ) → Position → Move → SaidMove
move_said names s (Shift from to) =
    said.Shift (record { row = from; tier = length (row_stack s from) }) (record { row = to; tier = suc (length (row_stack s to)) }) (name_of_rank names (top_of (row_stack s from)))
move_said names s (Take row) = said.Take (record { row = row; tier = length (row_stack s row) }) (name_of_rank names s.next)

-- the line of such a move
abbrev pub move_line : List (List ℕ) → Position → Move → List ℕ
move_line names s m = move_words (move_said names s m) ++ 10 ∷ []

-- the lines of moves that are legal one after the other
abbrev pub AreMoveLines : List (List ℕ) → Position → List Move → List ℕ → Type 0
AreMoveLines names s [] text = text ≡ []
AreMoveLines names s (m ∷ moves) text =
    (t : Position) × (rest : List ℕ) × Legal s m t × AreMoveLines names t moves rest × (text ≡ move_line names s m ++ rest)
