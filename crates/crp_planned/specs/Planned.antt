-- The moves of a plan, as a report says them.
use Rattle.std.specs.Prelude.{◌≡◌, ℕ, List, [], ◌∷◌}
use Rattle.crp_plan.specs.declared.moves.Move.{Move}
use Rattle.crp_plan.specs.Bay.{Position, Legal}
use Rattle.crp_said.specs.declared.moves.SaidMove.{SaidMove}
use Rattle.crp_said.specs.MoveLines.{move_said}

-- the moves are legal one after the other, up to this position, and this is what is said of each where it is made
abbrev pub AreSaid : List (List ℕ) → Position → List Move → List SaidMove → Position → Type 0
AreSaid names s [] [] t = s ≡ t
AreSaid names s [] (x ∷ said) t = ⊥
AreSaid names s (m ∷ moves) [] t = ⊥
AreSaid names s (m ∷ moves) (x ∷ said) t = (x ≡ move_said names s m) × ((u : Position) × Legal s m u × AreSaid names u moves said t)
