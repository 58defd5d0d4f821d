-- What a report that is followed leaves of what is ordered.
use Rattle.std.specs.Prelude.{ℕ, nat_lt, Bool, false, not, ◌&&◌, List, [], ◌∷◌, filter, flat_map, Option, Some, None, if◌then◌else◌}
use Rattle.std.specs.List.{list_any}
use Rattle.std.specs.Str.{bytes_eq}
use Rattle.crp_plan.specs.BayNames.{YardBay}
use Rattle.crp_yard.specs.Inventory.{StackedBay, is_among}
use Rattle.crp_said.specs.declared.moves.SaidMove.{SaidMove}
use Rattle.crp_said.specs.declared.moves.SaidMove.TheVariants.{Shift, Take}
use Rattle.crp_follow.specs.Stated.{moves_of}
use Rattle.crp_follow.specs.Followed.{BayFollowed}
use Rattle.crp_notes.specs.Wording.{left_note, loaded_note}

-- the moves of a report, bay by bay
abbrev pub moves_of_all : List BayFollowed → List SaidMove
moves_of_all bays = flat_map (λ b. moves_of b.stated.moves) bays

-- the move takes the container
abbrev pub is_take_of : List ℕ → SaidMove → Bool
is_take_of container (Shift from to other) = false
is_take_of container (Take from other) = bytes_eq container other

-- a move of these takes it
abbrev pub is_taken : List SaidMove → List ℕ → Bool
is_taken moves container = list_any (is_take_of container) moves

-- it is ordered, and none of these moves takes it
abbrev pub is_left : List (List ℕ) → List SaidMove → List ℕ → Bool
is_left sequence moves container = is_among sequence container && not (is_taken moves container)

-- the containers of a bay that are ordered, and that none of these moves takes, row by row from bottom to top
abbrev pub left_in : List (List ℕ) → List SaidMove → List (List (List ℕ)) → List (List ℕ)
left_in sequence moves rows = filter (is_left sequence moves) (flat_map (λ stack. stack) rows)

-- the note on the containers that are left in a bay, if some are
abbrev pub note_if_left : YardBay → List (List ℕ) → Option (List ℕ)
note_if_left bay [] = None
note_if_left bay (name ∷ names) = Some (left_note bay (name ∷ names))

-- the note on a bay, if something is left in it
abbrev pub note_on_left : List (List ℕ) → List SaidMove → StackedBay → Option (List ℕ)
note_on_left sequence moves bay = note_if_left bay.0 (left_in sequence moves bay.1)

-- the note on what is said to be loaded, if that is more than is ordered
abbrev pub note_on_loaded : ℕ → Option ℕ → Option (List ℕ)
note_on_loaded sequenced None = None
note_on_loaded sequenced (Some loaded) = if nat_lt sequenced loaded then Some (loaded_note loaded sequenced) else None
