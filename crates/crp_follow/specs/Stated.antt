-- What a report states, line by line: its three numbers, and the bays with their moves, each with the number of its line.
use Rattle.std.specs.Prelude.{◌≡◌, ◌≤◌, ℕ, List, ◌∷◌, [], ◌++◌, length, map, flat_map, count_by}
use Rattle.std.specs.List.{AllByRecursion}
use Rattle.crp_plan.specs.BayNames.{YardBay, IsYardBay}
use Rattle.crp_said.specs.declared.numbers.Numbers.{Numbers}
use Rattle.crp_said.specs.declared.said.Said.{Said}
use Rattle.crp_said.specs.declared.moves.SaidMove.{SaidMove}
use Rattle.crp_said.specs.MoveLines.{move_words}
use Rattle.crp_said.specs.Said.{counts_line, words_of_bay, bays_line, is_settled}
use Rattle.crp_said.specs.Spelled.{AreSmall, IsSmall, CanBeStated, ended}
use Rattle.crp_follow.specs.declared.stated.StatedMove.{StatedMove}
use Rattle.crp_follow.specs.Lines.{Line, lines_in}

-- the most bytes of a report
abbrev pub most_bytes : ℕ
most_bytes = 8388608

-- a bay: the number of its line, its name, what is said of it, and its moves
pub record BayStated : Type 0 where
  pub line : ℕ
  pub bay : YardBay
  pub said : Said
  pub moves : List StatedMove

-- its moves without the numbers of their lines
abbrev pub moves_of : List StatedMove → List SaidMove
moves_of moves = map (λ m. m.said) moves

-- the line of a move
abbrev pub move_line : StatedMove → Line
move_line m = record { number = m.line; body = move_words m.said }

-- the line of a bay, and those of its moves
abbrev pub bay_lines : BayStated → List Line
bay_lines b = record { number = b.line; body = words_of_bay b.bay b.said } ∷ map move_line b.moves

-- a bay that can be stated
pub record IsStatable (b : BayStated) : Type 0 where
  pub named : IsYardBay b.bay
  pub small : IsSmall b.said
  pub moves : AllByRecursion CanBeStated (moves_of b.moves)

-- a last line that counts these bays, and those of them that are decided
abbrev pub CountsBays : List BayStated → Line → Type 0
CountsBays bays l = ended l.body ≡ bays_line (length bays) (count_by (λ b. is_settled b.said) bays)

-- the lines begin with the orders line and those of bays with their moves, and these follow
pub record GoOnWith (lines : List Line) (numbers : Numbers) (bays : List BayStated) (later : List Line) : Type 0 where
  pub orders : Line
  pub small : AreSmall numbers
  pub orders_are : ended orders.body ≡ counts_line numbers
  pub statable : AllByRecursion IsStatable bays
  pub lines_are : lines ≡ orders ∷ (flat_map bay_lines bays ++ later)

-- the text is a report of these numbers and these bays, and its last line counts them
pub record States (text : List ℕ) (numbers : Numbers) (bays : List BayStated) : Type 0 where
  pub short : length text ≤ most_bytes
  pub last : Line
  pub front : GoOnWith (lines_in text) numbers bays (last ∷ [])
  pub counts : CountsBays bays last
