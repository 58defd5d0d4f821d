-- What the lines of a bay are: those of a plan with the relocations that are said, or not.
use Rattle.std.specs.Prelude.{◌≡◌, ◌≢◌, ℕ, List, [], length, Option, Some, None}
use Rattle.crp_plan.specs.declared.moves.Move.{Move}
use Rattle.crp_plan.specs.Bay.{Problem, Position, IsPlan, IsFinished, start, path_of, relocations}
use Rattle.crp_said.specs.MoveLines.{AreMoveLines}
use Rattle.crp_audit.specs.Replayed.{LeadsTo, StopsBehind}
use Rattle.crp_audit.specs.declared.looking.Looked.{Looked}
use Rattle.crp_audit.specs.declared.looking.Looked.TheVariants.{Nothing, Plan, Stopped, Other}

-- all lines are those of legal moves, and they are no complete plan, or one of another number of relocations; or there are lines where no plan is said
abbrev pub AreOtherLines : List (List ℕ) → Problem → List ℕ → Option ℕ → Type 0
AreOtherLines names p lines None = lines ≢ []
AreOtherLines names p lines (Some count) =
    (moves : List Move) × (place : Position) × LeadsTo names (start p) lines moves place × ¬ (IsFinished place × (relocations moves ≡ count))

-- the lines are those of a complete plan with so many relocations, which go to these rows
pub record ArePlanLines (names : List (List ℕ)) (p : Problem) (lines : List ℕ) (count : ℕ) (path : List ℕ) : Type 0 where
  pub moves : List Move
  pub complete : IsPlan p moves
  pub printed : AreMoveLines names (start p) moves lines
  pub counted : relocations moves ≡ count
  pub path_is : path ≡ path_of moves

-- what lines are of which a plan with so many relocations is said, or none
abbrev pub IsLookedAt : List (List ℕ) → Problem → Option ℕ → List ℕ → Looked → Type 0
IsLookedAt names p count lines Nothing = (count ≡ None) × (lines ≡ [])
IsLookedAt names p count lines (Plan path) = (k : ℕ) × (count ≡ Some k) × ArePlanLines names p lines k path.items
IsLookedAt names p count lines (Stopped read) =
    (k : ℕ) × (count ≡ Some k) × ((before : List ℕ) × (read ≡ length before) × StopsBehind names (start p) lines before)
IsLookedAt names p count lines Other = AreOtherLines names p lines count
