-- What a crane can do over a bay: it lifts the highest container of a row, and sets it down on the lowest free place of another row, or gives it away.
-- A bay has for each row from the first its containers from bottom to top. Rows and tiers count from 1.
use Rattle.std.specs.Prelude.{◌≡◌, ◌≢◌, ◌≤◌, ℕ, zero, suc, List, [], ◌∷◌, ◌++◌, length, slice_get, slice_set, Option, Some, None}
use Rattle.crp_yard.specs.Records.{height_of}
use Rattle.crp_said.specs.declared.moves.Place.{Place}
use Rattle.crp_said.specs.declared.moves.SaidMove.{SaidMove}
use Rattle.crp_said.specs.declared.moves.SaidMove.TheVariants.{Shift, Take}

-- a row: the names of its containers from bottom to top
abbrev pub Stack : Type 0
Stack = List (List ℕ)

-- what stands in a row, if there is such a row
abbrev pub stack_of : List Stack → ℕ → Option Stack
stack_of rows zero = None
stack_of rows (suc i) = slice_get rows i

-- the rows, where this stands in one of them
abbrev pub with_stack : List Stack → ℕ → Stack → List Stack
with_stack rows zero stack = rows
with_stack rows (suc i) stack = slice_set rows i stack

-- where a container is to be lifted, and which
abbrev pub from_of : SaidMove → Place
from_of (Shift from to container) = from
from_of (Take from container) = from

abbrev pub container_of : SaidMove → List ℕ
container_of (Shift from to container) = container
container_of (Take from container) = container

-- the container stands at the place and is the highest of its row; these stand beneath it
pub record IsHighest (rows : List Stack) (place : Place) (container : List ℕ) (beneath : Stack) : Type 0 where
  pub stack : stack_of rows place.row ≡ Some (beneath ++ container ∷ [])
  pub tier : place.tier ≡ suc (length beneath)

-- the place is the lowest free one of its row, and within the height of the row; these stand beneath it
pub record IsLowestFree (heights : List ℕ) (rows : List Stack) (place : Place) (beneath : Stack) : Type 0 where
  pub stack : stack_of rows place.row ≡ Some beneath
  pub tier : place.tier ≡ suc (length beneath)
  pub within : place.tier ≤ height_of heights place.row

-- the container is lifted off this place
pub record IsTaken (rows : List Stack) (from : Place) (container : List ℕ) (after : List Stack) : Type 0 where
  pub beneath : Stack
  pub highest : IsHighest rows from container beneath
  pub after_is : after ≡ with_stack rows from.row beneath

-- the container is lifted off one place and set down on another
pub record IsShifted (heights : List ℕ) (rows : List Stack) (from to : Place) (container : List ℕ) (after : List Stack) : Type 0 where
  pub beneath : Stack
  pub highest : IsHighest rows from container beneath
  pub another : to.row ≢ from.row
  pub onto : Stack
  pub free : IsLowestFree heights rows to onto
  pub after_is : after ≡ with_stack (with_stack rows from.row beneath) to.row (onto ++ container ∷ [])

-- the crane can make the move, and then the rows are these
abbrev pub CanMake : List ℕ → List Stack → SaidMove → List Stack → Type 0
CanMake heights rows (Shift from to container) after = IsShifted heights rows from to container after
CanMake heights rows (Take from container) after = IsTaken rows from container after

-- it can make the moves one after the other, and then the rows are these
abbrev pub Leads : List ℕ → List Stack → List SaidMove → List Stack → Type 0
Leads heights rows [] after = rows ≡ after
Leads heights rows (m ∷ moves) after = (next : List Stack) × CanMake heights rows m next × Leads heights next moves after
