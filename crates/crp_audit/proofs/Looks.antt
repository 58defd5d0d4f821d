-- What lines are that were followed.
use Rattle.std.proofs.Common.{◌≡◌, ◌≢◌, ℕ, List, length, sym, ap, ◌∙◌}
use Rattle.crp_plan.specs.declared.moves.Move.{Move}
use Rattle.crp_plan.specs.Bay.{Problem, Position, IsFinished, start, path_of, relocations}
use Rattle.crp_plan.proofs.Covered.{relocations-path}
use Rattle.crp_audit.specs.Replayed.{LeadsTo}
use Rattle.crp_audit.specs.Printed.{ArePlanLines}

-- those of a plan
pub plan_looked : (names : List (List ℕ)) (p : Problem) (lines : List ℕ) (count : ℕ) (path : List ℕ) (moves : List Move) (place : Position) → LeadsTo names (start p) lines moves place
    → path ≡ path_of moves → IsFinished place → length path ≡ count → ArePlanLines names p lines count path
plan_looked names p lines count path moves place leads rows end long = record {
  moves = moves;
  complete = (place, leads.runs, end);
  printed = leads.printed;
  counted = relocations-path moves ∙ ap length (sym rows) ∙ long;
  path_is = rows;
}

-- those of a plan with another number of relocations
pub other_count : (path : List ℕ) (moves : List Move) (place : Position) (count : ℕ) → path ≡ path_of moves → length path ≢ count → ¬ (IsFinished place × (relocations moves ≡ count))
other_count path moves place count rows apart (end, same) = apart (ap length rows ∙ sym (relocations-path moves) ∙ same)
