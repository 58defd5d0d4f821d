-- What the pass computes with: a column is what a scope brings, by room.
use Rattle.std.specs.Prelude.{◌≡◌, ◌<◌, ◌≤◌, ℕ, zero, suc, max, Bool, true, nat_lt, if◌then◌else◌, List, [], ◌∷◌, length, slice_index, ⊤}
use Rattle.crp_prices.specs.declared.job.MarkedJob.{MarkedJob}
use Rattle.crp_prices.specs.Pass.{Has, offer, best}

-- the jobs from the first one on that is not before the turn
abbrev pub from_on : ℕ → List MarkedJob → List MarkedJob
from_on v [] = []
from_on v (x ∷ jobs) = if nat_lt x.turn v then from_on v jobs else x ∷ jobs

-- the turns never fall
abbrev pub AreRising : List MarkedJob → Type 0
AreRising [] = ⊤
AreRising (x ∷ jobs) = ((y : MarkedJob) → Has y jobs → x.turn ≤ y.turn) × AreRising jobs

-- one number of a column, of those of the columns that it is made of
abbrev pub entry : Bool → ℕ → List ℕ → List ℕ → List ℕ → ℕ → ℕ
entry below paid after resumed inner zero = slice_index after 0
entry below paid after resumed inner (suc k) =
    max (slice_index after (suc k)) (offer true below paid (slice_index inner k) (slice_index resumed (suc k)) paid (slice_index after k))

-- a column: for each room from 0 to 8, what the scope brings by the jobs
pub record IsColumn (price : ℕ → ℕ → ℕ) (unit ordered : ℕ) (all : List MarkedJob) (low : ℕ) (jobs : List MarkedJob) (column : List ℕ) : Type 0 where
  pub rooms : length column ≡ 9
  pub brings : (room : ℕ) → room < 9 → slice_index column room ≡ best price unit ordered all room low 0 jobs

-- what the own scope of a job brings by room, where these follow it
pub record IsInner (price : ℕ → ℕ → ℕ) (unit ordered : ℕ) (all : List MarkedJob) (x : MarkedJob) (jobs : List MarkedJob) (column : List ℕ) : Type 0 where
  pub rooms : length column ≡ 9
  pub brings : (room : ℕ) → room < 9 → slice_index column room ≡ (if x.is_later then best price unit ordered all room x.rank x.turn all else best price unit ordered all room x.rank 0 jobs)
