-- A move of a report, and what stands in its bay before it.
use Rattle.std.specs.Prelude.{◌≡◌, ℕ, List, ◌∷◌, ◌++◌, slice_get, Some}
use Rattle.crp_sizes.specs.Sizes.{heights_at}
use Rattle.crp_yard.specs.Inventory.{Inventory}
use Rattle.crp_said.specs.declared.numbers.Numbers.{Numbers}
use Rattle.crp_said.specs.declared.moves.SaidMove.{SaidMove}
use Rattle.crp_follow.specs.declared.stated.StatedMove.{StatedMove}
use Rattle.crp_follow.specs.Crane.{Stack, Leads}
use Rattle.crp_follow.specs.Stated.{BayStated, moves_of, States}
use Rattle.crp_follow.specs.Faults.{rows_in}

-- the move of a bay at this line: the bay has rows of these heights, and the moves before it lead from what stands there to these rows
pub record StandsInBay (yard : Inventory) (bay : BayStated) (line : ℕ) (m : SaidMove) (heights : List ℕ) (rows : List Stack) : Type 0 where
  pub start : List Stack
  pub made : List StatedMove
  pub next : StatedMove
  pub later : List StatedMove
  pub stands : rows_in yard bay.bay ≡ Some start
  pub heights_are : heights ≡ heights_at yard.sizes bay.bay
  pub moves_are : bay.moves ≡ made ++ next ∷ later
  pub line_is : next.line ≡ line
  pub said_is : m ≡ next.said
  pub leads : Leads heights start (moves_of made) rows

-- the text is a report with this move at this line, and these rows are what stands in its bay before it
pub record StandsBefore (yard : Inventory) (text : List ℕ) (line : ℕ) (m : SaidMove) (heights : List ℕ) (rows : List Stack) : Type 0 where
  pub numbers : Numbers
  pub bays : List BayStated
  pub number : ℕ
  pub bay : BayStated
  pub states : States text numbers bays
  pub there : slice_get bays number ≡ Some bay
  pub before : StandsInBay yard bay line m heights rows
