-- The tables of the pass: columns of a scope from each job on, what the own scope of each job brings, and where the jobs of each turn begin.
use Rattle.std.specs.Prelude.{◌≡◌, ◌<◌, ◌≤◌, ◌^◌, ℕ, suc, List, length, slice_get, slice_index, Some, drop, if◌then◌else◌}
use Rattle.crp_prices.specs.declared.job.MarkedJob.{MarkedJob}
use Rattle.crp_prices.specs.Pass.{Has}
use Rattle.crp_prices.specs.Columns.{from_on, AreRising, IsColumn, IsInner}

-- the jobs with which the own scope of a job begins: for a later job all from its turn on, for a first job those that follow it
abbrev pub own_jobs : List MarkedJob → ℕ → MarkedJob → List MarkedJob
own_jobs all i x = if x.is_later then from_on x.turn all else drop (suc i) all

-- for each job from one index to another, the column of the scope from there on
pub record AreColumns (price : ℕ → ℕ → ℕ) (unit ordered : ℕ) (all : List MarkedJob) (low begin end : ℕ) (columns : List (List ℕ)) : Type 0 where
  pub each : length columns ≡ suc (length all)
  pub are : (i : ℕ) (column : List ℕ) → begin ≤ i → i ≤ end → slice_get columns i ≡ Some column → IsColumn price unit ordered all low (drop i all) column

-- for each job of a lower rank, what its own scope brings
pub record AreInner (price : ℕ → ℕ → ℕ) (unit ordered : ℕ) (all : List MarkedJob) (low : ℕ) (inners : List (List ℕ)) : Type 0 where
  pub each : length inners ≡ length all
  pub are : (i : ℕ) (x : MarkedJob) (column : List ℕ) → slice_get all i ≡ Some x → x.rank < low → slice_get inners i ≡ Some column → IsInner price unit ordered all x (drop (suc i) all) column

-- jobs that the pass can read: their turns never fall, and each is done before its container leaves
pub record AreReadable (jobs : List MarkedJob) : Type 0 where
  pub few : length jobs ≤ 2 ^ 20
  pub rising : AreRising jobs
  pub soon : (x : MarkedJob) → Has x jobs → x.turn < x.rank
  pub ranks : (x : MarkedJob) → Has x jobs → x.rank ≤ 96

-- for each turn, the index of the first job that is not before it
pub record AreStarts (jobs : List MarkedJob) (starts : List ℕ) : Type 0 where
  pub within : (v : ℕ) → v < 98 → slice_index starts v ≤ length jobs
  pub begins : (v : ℕ) → v < 98 → drop (slice_index starts v) jobs ≡ from_on v jobs
