-- Where boxes are drawn, and where containers stand.
use Rattle.std.specs.Prelude.{ℕ, zero, suc, ◌+◌, ◌==◌, length, Bool, true, false, ◌&&◌, List, [], ◌∷◌, Option, None, slice_get}
use Rattle.crp_said.specs.declared.moves.Place.{Place}
use Rattle.crp_said.specs.declared.moves.SaidMove.{SaidMove}
use Rattle.crp_said.specs.declared.moves.SaidMove.TheVariants.{Shift, Take}
use Rattle.crp_follow.specs.declared.stated.StatedMove.{StatedMove}
use Rattle.crp_follow.specs.Crane.{Stack}
use Rattle.crp_picture.specs.declared.mark.Mark.{Mark}
use Rattle.crp_picture.specs.Cells.{Cell, stack_in}
use Rattle.crp_picture.specs.Frames.{is_at}
use Rattle.crp_picture.specs.Pictures.{has_mark}

abbrev pub one_if : Bool → ℕ
one_if false = 0
one_if true = 1

-- how many containers get the mark at this place
abbrev pub times_marked : List Cell → Place → Mark → ℕ
times_marked [] place m = 0
times_marked (c ∷ cells) place m = one_if (has_mark m c && is_at c place) + times_marked cells place m

-- how many get one of these marks there
abbrev pub times_among : List Cell → Place → List Mark → ℕ
times_among cells place [] = 0
times_among cells place (m ∷ ms) = times_marked cells place m + times_among cells place ms

-- the container of a row at this tier, if one stands there
abbrev pub at_tier : Stack → ℕ → Option (List ℕ)
at_tier stack zero = None
at_tier stack (suc tier) = slice_get stack tier

-- the container at a place
abbrev pub standing_at : List Stack → Place → Option (List ℕ)
standing_at rows place = at_tier (stack_in rows place.row) place.tier

-- the first of the moves puts its container there, if it is a relocation: on top of what stands in the row
abbrev pub puts_at : List Stack → SaidMove → Place → Bool
puts_at rows (Shift from to container) place = (to.row == place.row) && (suc (length (stack_in rows to.row)) == place.tier)
puts_at rows (Take from container) place = false

abbrev pub goal_is_at : List Stack → List StatedMove → Place → Bool
goal_is_at rows [] place = false
goal_is_at rows (m ∷ moves) place = puts_at rows m.said place
