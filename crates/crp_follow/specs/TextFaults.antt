-- Why the text of a report is refused: the first fault. All of the text is read before a move is made.
use Rattle.std.specs.Prelude.{◌≡◌, ◌≢◌, ◌<◌, ◌≤◌, ℕ, List, [], ◌∷◌, length}
use Rattle.crp_said.specs.declared.numbers.Numbers.{Numbers}
use Rattle.crp_said.specs.declared.moves.SaidMove.{SaidMove}
use Rattle.crp_said.specs.MoveLines.{move_words}
use Rattle.crp_said.specs.Spelled.{CanBeStated, IsOrdersLine, IsBayLine, IsLastLine}
use Rattle.crp_follow.specs.declared.fault.FollowFault.{FollowFault}
use Rattle.crp_follow.specs.declared.fault.FollowFault.TheVariants as fault
use Rattle.crp_follow.specs.Lines.{Line, lines_in, line_behind_all}
use Rattle.crp_follow.specs.Stated.{most_bytes, BayStated, CountsBays, GoOnWith}

-- the line of a move
abbrev pub IsMoveLine : List ℕ → Type 0
IsMoveLine body = (m : SaidMove) × CanBeStated m × (body ≡ move_words m)

-- there is a first line, and it is so
abbrev pub Begins : (List ℕ → Type 0) → List Line → Type 0
Begins P [] = ⊥
Begins P (l ∷ later) = P l.body

-- these lines follow the bays, and begin neither with the line of a bay nor, where there are bays, with that of a move
pub record IsBehind (bays : List BayStated) (later : List Line) : Type 0 where
  pub no_bay : ¬ Begins IsBayLine later
  pub no_move : bays ≢ [] → ¬ Begins IsMoveLine later

-- ---- faults

-- no orders line is the first: the first line is another, or there is none
abbrev pub IsNoOrders : List Line → ℕ → Type 0
IsNoOrders [] line = line ≡ 1
IsNoOrders (l ∷ later) line = (line ≡ l.number) × ¬ IsOrdersLine l.body

-- a line that is none of a bay or its moves, and not a last line with nothing behind it
abbrev pub IsNoLine : List Line → ℕ → Type 0
IsNoLine [] line = ⊥
IsNoLine (l ∷ later) line = (line ≡ l.number) × (later ≡ [] → ¬ IsLastLine l.body)

-- a last line that counts the bays wrong; or there is none
abbrev pub IsWrongCount : ℕ → List BayStated → List Line → ℕ → Type 0
IsWrongCount behind bays [] line = line ≡ behind
IsWrongCount behind bays (l ∷ []) line = (line ≡ l.number) × IsLastLine l.body × ¬ CountsBays bays l
IsWrongCount behind bays (l ∷ k ∷ later) line = ⊥

-- the lines begin with the orders line and bays with their moves, and there the fault is
pub record StopsAt (lines : List Line) (IsFault : List BayStated → List Line → Type 0) : Type 0 where
  pub numbers : Numbers
  pub bays : List BayStated
  pub later : List Line
  pub front : GoOnWith lines numbers bays later
  pub behind : IsBehind bays later
  pub wrong : IsFault bays later

-- the first fault of a text before its bays: it is too long, or begins with no orders line
abbrev pub IsFrontFault : List ℕ → FollowFault → Type 0
IsFrontFault text fault.TooLong = most_bytes < length text
IsFrontFault text (fault.Orders line) = (length text ≤ most_bytes) × IsNoOrders (lines_in text) line
IsFrontFault text f = ⊥

-- the first fault of a text
abbrev pub IsTextFault : List ℕ → FollowFault → Type 0
IsTextFault text (fault.NoLine line) = (length text ≤ most_bytes) × StopsAt (lines_in text) (λ bays later. IsNoLine later line)
IsTextFault text (fault.Count line) = (length text ≤ most_bytes) × StopsAt (lines_in text) (λ bays later. IsWrongCount (line_behind_all text) bays later line)
IsTextFault text f = IsFrontFault text f
