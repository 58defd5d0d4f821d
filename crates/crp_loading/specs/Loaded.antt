-- The moves that are made when the ship has its first containers.
use Rattle.std.specs.Prelude.{ℕ, nat_le, Bool, false, List, [], ◌∷◌, map, if◌then◌else◌}
use Rattle.std.specs.Option.{option_map_or}
use Rattle.std.specs.List.{list_any}
use Rattle.crp_said.specs.declared.moves.SaidMove.{SaidMove}
use Rattle.crp_said.specs.declared.moves.SaidMove.TheVariants.{Shift, Take}
use Rattle.crp_follow.specs.Stated.{moves_of}
use Rattle.crp_follow.specs.Followed.{BayFollowed}
use Rattle.crp_follow.specs.Table.{MoveColumns}
use Rattle.crp_follow.specs.Behind.{Made}
use Rattle.crp_loading.specs.Turns.{turn_of}
use Rattle.crp_loading.specs.Loading.{turn_at}

-- the move takes a container of one of the first turns, so many
abbrev pub takes_up_to : List (List ℕ) → ℕ → SaidMove → Bool
takes_up_to sequence n (Shift from to container) = false
takes_up_to sequence n (Take from container) = option_map_or (λ turn. nat_le turn n) (turn_of sequence container) false

-- the moves of a bay up to the last of these takes
abbrev pub moves_up_to : List (List ℕ) → ℕ → List SaidMove → List SaidMove
moves_up_to sequence n [] = []
moves_up_to sequence n (m ∷ moves) = if list_any (takes_up_to sequence n) (m ∷ moves) then m ∷ moves_up_to sequence n moves else []

-- those of each bay
abbrev pub made_up_to : List (List ℕ) → ℕ → List BayFollowed → List Made
made_up_to sequence n bays = map (λ b. record { bay = b.stated.bay; moves = moves_up_to sequence n (moves_of b.stated.moves) }) bays

-- the record of a move has one of the first turns, so many
abbrev pub has_turn_up_to : List (List ℕ) → ℕ → MoveColumns → Bool
has_turn_up_to sequence n c = option_map_or (λ turn. nat_le turn n) (turn_at sequence c) false
