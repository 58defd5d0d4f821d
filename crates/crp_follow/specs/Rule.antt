-- Whether the moves of a bay are of the restricted rule, as far as their lines alone show it: only a container on the stack from which the next one is taken
-- is relocated.
use Rattle.std.specs.Prelude.{◌≡◌, ℕ, ◌==◌, Bool, true, false, List, [], ◌∷◌, Option, Some, None, option_map, if◌then◌else◌}
use Rattle.crp_said.specs.declared.moves.SaidMove.{SaidMove}
use Rattle.crp_said.specs.declared.moves.SaidMove.TheVariants.{Shift, Take}
use Rattle.crp_follow.specs.declared.rule.Judged.{Judged}
use Rattle.crp_follow.specs.declared.rule.OutsideMove.{OutsideMove}
use Rattle.crp_follow.specs.declared.stated.StatedMove.{StatedMove}
use Rattle.crp_follow.specs.Stated.{BayStated, moves_of}

-- the row from which these moves take next, if they take
abbrev pub next_row : List SaidMove → Option ℕ
next_row [] = None
next_row (Shift from to container ∷ moves) = next_row moves
next_row (Take from container ∷ moves) = Some from.row

abbrev pub is_row : Option ℕ → ℕ → Bool
is_row None row = false
is_row (Some next) row = next == row

-- a move before these is of the rule: a relocation lifts from the row from which the next container is taken
abbrev pub is_of_rule : SaidMove → List SaidMove → Bool
is_of_rule (Shift from to container) later = is_row (next_row later) from.row
is_of_rule (Take from container) later = true

-- the line of the first of these moves that is not of the rule, if there is one
abbrev pub first_outside : List StatedMove → Option ℕ
first_outside [] = None
first_outside (m ∷ later) = if is_of_rule m.said (moves_of later) then first_outside later else Some m.line

-- the bay with that line, if it has such a move
abbrev pub outside_in : BayStated → Option OutsideMove
outside_in b = option_map (λ line. record { bay = b.bay; line = line }) (first_outside b.moves)

-- what is known of moves that are gone through from the last to the first. Only private clauses speak of it
pub record AreJudged (moves : List StatedMove) (judged : Judged) : Type 0 where
  pub next : judged.next ≡ next_row (moves_of moves)
  pub outside : judged.outside ≡ first_outside moves
