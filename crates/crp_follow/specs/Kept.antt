-- What moves give away, and what they leave: words of the laws of moves and of the table.
use Rattle.std.specs.Prelude.{◌≡◌, ℕ, suc, ◌<◌, ◌≤◌, List, [], ◌∷◌, sum_by, slice_get, Some}
use Rattle.crp_yard.specs.Inventory.{times}
use Rattle.crp_said.specs.declared.moves.Place.{Place}
use Rattle.crp_said.specs.declared.moves.SaidMove.{SaidMove}
use Rattle.crp_said.specs.declared.moves.SaidMove.TheVariants.{Shift, Take}
use Rattle.crp_follow.specs.Crane.{Stack}

-- the containers that leave the bay by these moves, in order
abbrev pub taken_by : List SaidMove → List (List ℕ)
taken_by [] = []
taken_by (Shift from to container ∷ moves) = taken_by moves
taken_by (Take from container ∷ moves) = container ∷ taken_by moves

-- in how many places of the rows the container stands
abbrev pub times_in : List ℕ → List Stack → ℕ
times_in container rows = sum_by (times container) rows

-- the move of this step, from 1, takes the container
pub record IsTakenAt (moves : List SaidMove) (step : ℕ) (container : List ℕ) : Type 0 where
  pub before : ℕ
  pub step_is : step ≡ suc before
  pub from : Place
  pub move : slice_get moves before ≡ Some (Take from container)

-- it is the first container that leaves at this step or later
pub record IsNextToLeave (moves : List SaidMove) (step : ℕ) (container : List ℕ) : Type 0 where
  pub at : ℕ
  pub later : step ≤ at
  pub taken : IsTakenAt moves at container
  pub none_before : (k : ℕ) (other : List ℕ) → step ≤ k → k < at → ¬ IsTakenAt moves k other
