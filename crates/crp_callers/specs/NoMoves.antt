-- Lines of moves, and what stands behind them.
use Rattle.std.specs.Prelude.{◌≡◌, ℕ, List, ◌++◌}
use Rattle.crp_plan.specs.declared.moves.Move.{Move}
use Rattle.crp_plan.specs.Bay.{Problem, Position, Legal, Runs, start}
use Rattle.crp_said.specs.MoveLines.{AreMoveLines, move_line}

-- some moves of the problem, one legal after the other, have these lines, and no move that is legal then has the line with which the rest begins
abbrev pub BeginsWithNoMove : List (List ℕ) → Problem → List ℕ → List ℕ → Type 0
BeginsWithNoMove names p before rest = (moves : List Move) × (place : Position) × Runs (start p) moves place × AreMoveLines names (start p) moves before
    × ((m : Move) (t : Position) (more : List ℕ) → Legal place m t → rest ≡ move_line names place m ++ more → ⊥)
