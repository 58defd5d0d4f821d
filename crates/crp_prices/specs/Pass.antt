-- The pass: what a row earns at most, by jobs read backwards, once for each container that other jobs may be put on and for each room that is left.
-- A row is played in scopes. A scope has a low, the least ordered rank that stands, or the first that is not ordered; it goes on until the turn of that.
use Rattle.std.specs.Prelude.{◌≡◌, ◌<◌, ◌⊎◌, ℕ, zero, suc, ◌+◌, ◌-◌, max, Bool, true, false, not, ◌&&◌, nat_lt, if◌then◌else◌, List, [], ◌∷◌, ⊤}
use Rattle.crp_plan.specs.Bay.{Position}
use Rattle.crp_prices.specs.declared.job.Job.{Job}
use Rattle.crp_prices.specs.Prices.{IsFirst, IsLater, StandsAbove}
use Rattle.crp_prices.specs.declared.job.MarkedJob.{MarkedJob}

-- the job without its mark
abbrev pub job_of : MarkedJob → Job
job_of x = record { rank = x.rank; turn = x.turn }

-- the job is on the list
abbrev pub Has : MarkedJob → List MarkedJob → Type 0
Has x [] = ⊥
Has x (y ∷ jobs) = (y ≡ x) ⊎ Has x jobs

-- x may be read before y: its turn is the earlier one; or the same, and then later jobs are read first, in falling rank, and first jobs as they come up
abbrev pub IsReadBefore : Position → MarkedJob → MarkedJob → Type 0
IsReadBefore s x y = (x.turn < y.turn) ⊎ ((x.turn ≡ y.turn) × (((x.is_later ≡ true) × (y.is_later ≡ true → y.rank < x.rank)) ⊎ ((x.is_later ≡ false) × (y.is_later ≡ false)
    × (StandsAbove s y.rank x.rank → ⊥))))

-- each is read before all that follow it
abbrev pub AreRead : Position → List MarkedJob → Type 0
AreRead s [] = ⊤
AreRead s (x ∷ jobs) = ((y : MarkedJob) → Has y jobs → IsReadBefore s x y) × AreRead s jobs

-- all jobs of a position, in the order in which they are read
pub record AreJobs (s : Position) (jobs : List MarkedJob) : Type 0 where
  pub first : (j : Job) → IsFirst s j → Has (record { rank = j.rank; turn = j.turn; is_later = false }) jobs
  pub later : (j : Job) → IsLater s j → Has (record { rank = j.rank; turn = j.turn; is_later = true }) jobs
  pub is_first : (x : MarkedJob) → Has x jobs → x.is_later ≡ false → IsFirst s (job_of x)
  pub is_later : (x : MarkedJob) → Has x jobs → x.is_later ≡ true → IsLater s (job_of x)
  pub in_order : AreRead s jobs

-- the job is in a turn from this one on, and before the turn of the low
abbrev pub is_within : ℕ → ℕ → MarkedJob → Bool
is_within low from x = nat_lt x.turn low && not (nat_lt x.turn from)

-- what a job earns that is not put on as the new low: its price, and where something ordered stands there, without a unit and the price of the next job
abbrev pub earns_above : (ℕ → ℕ → ℕ) → ℕ → ℕ → ℕ → MarkedJob → ℕ
earns_above price unit ordered low x = if nat_lt ordered low then price x.rank x.turn else price x.rank x.turn - (unit + price x.rank low)

-- what a job brings, taken: as the new low, its price, what its own scope brings and what this one brings after its turn; else what it earns, and the rest
abbrev pub offer : Bool → Bool → ℕ → ℕ → ℕ → ℕ → ℕ → ℕ
offer within below paid inner resumed above rest = if within then (if below then paid + (inner + resumed) else above + rest) else 0

-- what a scope brings by jobs in a turn from this one on, taken or not, where `inner` is what one brings with one place less: the scope of a later job
-- begins with all jobs of its turn
abbrev pub scan : (ℕ → ℕ → ℕ) → ℕ → ℕ → List MarkedJob → (ℕ → ℕ → List MarkedJob → ℕ) → ℕ → ℕ → List MarkedJob → ℕ
scan price unit ordered all inner low from [] = 0
scan price unit ordered all inner low from (x ∷ jobs) = max (scan price unit ordered all inner low from jobs) (offer (is_within low from x) (nat_lt x.rank low)
    (price x.rank x.turn) (if x.is_later then inner x.rank x.turn all else inner x.rank from jobs) (scan price unit ordered all inner low (suc x.rank) jobs)
    (earns_above price unit ordered low x) (inner low from jobs))

-- what a scope brings where there is room for so many more
abbrev pub best : (ℕ → ℕ → ℕ) → ℕ → ℕ → List MarkedJob → ℕ → ℕ → ℕ → List MarkedJob → ℕ
best price unit ordered all zero low from jobs = 0
best price unit ordered all (suc room) low from jobs = scan price unit ordered all (best price unit ordered all room) low from jobs

-- a scope: its low, and how many containers stand in the row
pub record Scope : Type 0 where
  pub low : ℕ
  pub size : ℕ

-- the scopes after a container is put on, the innermost first: a lower one opens a scope
abbrev pub with_one : ℕ → List Scope → List Scope
with_one c [] = []
with_one c (s ∷ scopes) = if nat_lt c s.low then record { low = c; size = suc s.size } ∷ s ∷ scopes else record { low = s.low; size = suc s.size } ∷ scopes

abbrev pub with_all : List Scope → List ℕ → List Scope
with_all scopes [] = scopes
with_all scopes (c ∷ stack) = with_all (with_one c scopes) stack

-- the scopes of a stack
abbrev pub scopes_of : ℕ → List ℕ → List Scope
scopes_of ordered stack = with_all (record { low = suc ordered; size = 0 } ∷ []) stack

-- what scopes bring together: each begins after the turn of the one within
abbrev pub worth : (ℕ → ℕ → ℕ) → ℕ → ℕ → List MarkedJob → ℕ → ℕ → List MarkedJob → List Scope → ℕ
worth price unit ordered all height from jobs [] = 0
worth price unit ordered all height from jobs (s ∷ scopes) =
    best price unit ordered all (height - s.size) s.low from jobs + worth price unit ordered all height (suc s.low) jobs scopes

-- what the row brings: all scopes of its stack
abbrev pub row_pass : (ℕ → ℕ → ℕ) → ℕ → ℕ → List MarkedJob → ℕ → List ℕ → ℕ
row_pass price unit ordered all height stack = worth price unit ordered all height 0 all (scopes_of ordered stack)

-- what each row brings
abbrev pub row_passes : (ℕ → ℕ → ℕ) → ℕ → ℕ → List MarkedJob → List ℕ → List (List ℕ) → List ℕ
row_passes price unit ordered all [] stacks = []
row_passes price unit ordered all (height ∷ heights) [] = []
row_passes price unit ordered all (height ∷ heights) (stack ∷ stacks) = row_pass price unit ordered all height stack ∷ row_passes price unit ordered all heights stacks
