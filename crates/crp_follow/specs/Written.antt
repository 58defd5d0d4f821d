-- A report as crp solve writes it, without a mark and without empty lines, and the numbers of its lines.
use Rattle.std.specs.Prelude.{◌≡◌, ◌+◌, ℕ, suc, List, [], ◌∷◌, length, map, flat_map, count_by}
use Rattle.std.specs.List.{AllByRecursion}
use Rattle.crp_said.specs.declared.moves.SaidMove.{SaidMove}
use Rattle.crp_said.specs.MoveLines.{move_words}
use Rattle.crp_said.specs.Said.{BaySaid, is_settled}
use Rattle.crp_said.specs.Spelled.{ReportSaid, ended}
use Rattle.crp_follow.specs.declared.stated.StatedMove.{StatedMove}
use Rattle.crp_follow.specs.Stated.{BayStated, moves_of, IsStatable}

-- the lines of moves
abbrev pub lines_of : List SaidMove → List ℕ
lines_of moves = flat_map (λ m. ended (move_words m)) moves

-- what the report says of a bay
abbrev pub said_by : BayStated → BaySaid
said_by b = record { bay = b.bay; said = b.said; lines = lines_of (moves_of b.moves) }

-- the moves stand at this line and those that follow it
abbrev pub AreMovesFrom : ℕ → List StatedMove → Type 0
AreMovesFrom line [] = Unit {0}
AreMovesFrom line (m ∷ moves) = (m.line ≡ line) × AreMovesFrom (suc line) moves

-- the bays with their moves stand at this line and those that follow it
abbrev pub AreBaysFrom : ℕ → List BayStated → Type 0
AreBaysFrom line [] = Unit {0}
AreBaysFrom line (b ∷ bays) = (b.line ≡ line) × AreMovesFrom (suc line) b.moves × AreBaysFrom (suc line + length b.moves) bays

-- this report says these bays, which stand behind its first line, and its last line counts them
pub record SaysBays (r : ReportSaid) (bays : List BayStated) : Type 0 where
  pub statable : AllByRecursion IsStatable bays
  pub bays_are : r.bays ≡ map said_by bays
  pub numbered : AreBaysFrom 2 bays
  pub count_is : r.count ≡ length bays
  pub settled_is : r.settled ≡ count_by (λ b. is_settled b.said) bays
