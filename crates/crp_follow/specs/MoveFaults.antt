-- Why a crane cannot make a move, and where moves stop.
use Rattle.std.specs.Prelude.{◌≡◌, ◌≢◌, ℕ, List, ◌∷◌, ◌++◌}
use Rattle.crp_said.specs.declared.moves.SaidMove.{SaidMove}
use Rattle.crp_said.specs.declared.moves.SaidMove.TheVariants.{Shift, Take}
use Rattle.crp_follow.specs.declared.stated.StatedMove.{StatedMove}
use Rattle.crp_follow.specs.declared.fault.FollowFault.{FollowFault}
use Rattle.crp_follow.specs.declared.fault.FollowFault.TheVariants as fault
use Rattle.crp_follow.specs.Crane.{Stack, from_of, container_of, IsHighest, IsLowestFree, Leads}
use Rattle.crp_follow.specs.Stated.{moves_of}

-- where the move sets its container down, it can be set down; one that is taken is not set down
abbrev pub CanSetDown : List ℕ → List Stack → SaidMove → Type 0
CanSetDown heights rows (Shift from to container) = (to.row ≢ from.row) × ((beneath : Stack) × IsLowestFree heights rows to beneath)
CanSetDown heights rows (Take from container) = Unit {0}

-- why the crane cannot make a move over these rows. `Lift`: no container is the highest of its row there. `Container`: another one is. `SetDown`: it is,
-- and cannot be set down there
abbrev pub IsMoveFault : List ℕ → List Stack → StatedMove → FollowFault → Type 0
IsMoveFault heights rows m (fault.Lift line) = (line ≡ m.line) × ((container : List ℕ) (beneath : Stack) → ¬ IsHighest rows (from_of m.said) container beneath)
IsMoveFault heights rows m (fault.Container line) =
    (line ≡ m.line) × ((container : List ℕ) × (beneath : Stack) × IsHighest rows (from_of m.said) container beneath × (container ≢ container_of m.said))
IsMoveFault heights rows m (fault.SetDown line) =
    (line ≡ m.line) × ((beneath : Stack) × IsHighest rows (from_of m.said) (container_of m.said) beneath) × ¬ CanSetDown heights rows m.said
IsMoveFault heights rows m f = ⊥

-- the crane makes some of the moves, and cannot make the next
pub record StopsWith (heights : List ℕ) (start : List Stack) (moves : List StatedMove) (f : FollowFault) : Type 0 where
  pub made : List StatedMove
  pub next : StatedMove
  pub later : List StatedMove
  pub rows : List Stack
  pub moves_are : moves ≡ made ++ next ∷ later
  pub leads : Leads heights start (moves_of made) rows
  pub wrong : IsMoveFault heights rows next f
