-- Lines of moves that are replayed from a position, by the restricted rule: where they lead, and where they stop.
use Rattle.std.specs.Prelude.{◌≡◌, ◌≢◌, ◌↔◌, ℕ, List, [], ◌++◌, length, IsTrue}
use Rattle.crp_plan.specs.declared.moves.Move.{Move}
use Rattle.crp_plan.specs.Bay.{Position, Legal, Runs, IsFinished, path_of}
use Rattle.crp_said.specs.MoveLines.{move_line, AreMoveLines}
use Rattle.crp_audit.specs.declared.replaying.Replayed.{Replayed}
use Rattle.crp_audit.specs.declared.replaying.Replayed.TheVariants.{Stopped, Through}

-- the lines are those of legal moves, which lead to this place
pub record LeadsTo (names : List (List ℕ)) (from : Position) (lines : List ℕ) (moves : List Move) (place : Position) : Type 0 where
  pub runs : Runs from moves place
  pub printed : AreMoveLines names from moves lines

-- these of the lines are those of legal moves, and the next one is the line of no move that is legal then: another place, another tier, another container
pub record StopsBehind (names : List (List ℕ)) (from : Position) (lines before : List ℕ) : Type 0 where
  pub moves : List Move
  pub place : Position
  pub rest : List ℕ
  pub leads : LeadsTo names from before moves place
  pub lines_are : lines ≡ before ++ rest
  pub one_more : rest ≢ []
  pub wrong : (m : Move) (t : Position) (more : List ℕ) → Legal place m t → rest ≡ move_line names place m ++ more → ⊥

-- the lines lead through, with this path, to a place that is finished or not; or they stop behind so many bytes
abbrev pub IsReplayed : List (List ℕ) → Position → List ℕ → Replayed → Type 0
IsReplayed names from lines (Stopped read) = (before : List ℕ) × (read ≡ length before) × StopsBehind names from lines before
IsReplayed names from lines (Through path finished) =
    (moves : List Move) × (place : Position) × LeadsTo names from lines moves place × (path.items ≡ path_of moves) × (IsTrue finished ↔ IsFinished place)
