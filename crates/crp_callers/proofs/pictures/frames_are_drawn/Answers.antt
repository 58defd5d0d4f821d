use Rattle.std.proofs.Common.{◌≡◌, ◌+◌, ◌∙◌, ℕ, zero, suc, List, [], ◌∷◌, Bool, false, length, refl, ap, arith}
use Rattle.std.proofs.lemmas.Bool.{ne_eqb}
use Rattle.std.specs.Prelude.{◌==◌, ◌&&◌, is_some}
use Rattle.crp_said.specs.declared.moves.SaidMove.{SaidMove}
use Rattle.crp_said.specs.declared.moves.SaidMove.TheVariants.{Shift, Take}
use Rattle.crp_follow.specs.declared.stated.StatedMove.{StatedMove}
use Rattle.crp_follow.specs.Crane.{Stack}
use Rattle.crp_picture.specs.Boxes.{one_if, standing_at, puts_at, goal_is_at}
use Rattle.crp_picture.specs.Cells.{stack_in}
use Rattle.crp_callers.specs.SmallFrame.{frame_with}
use Rattle.crp_callers.specs.SmallReport.{place, small_rows}
use Rattle.crp_callers.proofs.pictures.frames_are_drawn.Goals as goal

-- nothing is put there, since the row has two containers
in_row : (row : ℕ) → ((row == 1) && (suc (length (stack_in small_rows row)) == 2)) ≡ false
in_row zero = refl
in_row (suc zero) = refl
in_row (suc (suc row)) =
    ap (λ (b : Bool). b && (suc (length (stack_in small_rows (suc (suc row)))) == 2)) (ne_eqb (suc (suc row)) 1 (λ (e : suc (suc row) ≡ 1). omega (arith, e)))

put : (m : SaidMove) → puts_at small_rows m (place 1 2) ≡ false
put (Shift from to container) = in_row to.row
put (Take from container) = refl

goal_there : (moves : List StatedMove) → goal_is_at small_rows moves (place 1 2) ≡ false
goal_there [] = refl
goal_there (m ∷ moves) = put m.said

pub returns-clause-stands : goal.returns-clause-stands
returns-clause-stands c = λ moves frame is.
    c.each_is_drawn_once.ensures.frame moves frame (place 1 2)
    ∙ ap (λ (rows : List Stack). one_if (is_some (standing_at rows (place 1 2))) + one_if (goal_is_at rows frame.moves (place 1 2))) is
    ∙ ap (λ (b : Bool). 1 + one_if b) (goal_there frame.moves)

pub returns-clause-set_down : goal.returns-clause-set_down
returns-clause-set_down c = λ moves behind. c.each_is_drawn_once.ensures.frame moves (frame_with behind) (place 2 2)

pub returns-clause-beneath : goal.returns-clause-beneath
returns-clause-beneath c = λ moves behind. c.each_is_drawn_once.ensures.frame moves (frame_with behind) (place 2 1)
