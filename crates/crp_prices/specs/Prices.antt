-- Jobs of a row: to take in a container that has to make way, in some turn. Prices of jobs; what a row earns by them at most; and what is due for all of
-- the containers that block. A unit is what one relocation counts in prices.
use Rattle.std.specs.Prelude.{◌≡◌, ◌≢◌, ◌<◌, ◌≤◌, ◌⊎◌, ℕ, suc, ◌+◌, ◌-◌, min, Bool, not, ◌&&◌, nat_lt, if◌then◌else◌, IsTrue, List, [], ◌∷◌, ◌++◌, length, Some, slice_get, sum, sum_by, ⊤}
use Rattle.std.specs.List.{AllByRecursion}
use Rattle.std.specs.Int.{div_ceil}
use Rattle.crp_plan.specs.Rows.{holds, occurrences}
use Rattle.crp_plan.specs.Bay.{Position}
use Rattle.crp_bounds.specs.Bounds.{holds_lower, blocking}
use Rattle.crp_prices.specs.declared.job.Job.{Job}

-- the rank stands in some row, on this list
pub record StandsOn (stacks : List (List ℕ)) (beneath : List ℕ) (rank : ℕ) : Type 0 where
  pub row : ℕ
  pub over : List ℕ
  pub stands : slice_get stacks row ≡ Some (beneath ++ rank ∷ over)

-- the container blocks: an ordered one of a lower rank stands beneath it; and this is its first job: the turn is the least of these
pub record IsFirst (s : Position) (j : Job) : Type 0 where
  pub beneath : List ℕ
  pub stands : StandsOn s.stacks beneath j.rank
  pub turn_stands : IsTrue (holds j.turn beneath)
  pub is_ordered : j.turn ≤ s.ordered
  pub is_lower : j.turn < j.rank
  pub least : (x : ℕ) → x ≤ s.ordered → IsTrue (holds x beneath) → j.turn ≤ x

-- the container blocks, and this is a later job: the turn is an ordered rank that stands in the bay and comes after its first turn, and before it leaves
pub record IsLater (s : Position) (j : Job) : Type 0 where
  pub first : ℕ
  pub blocks : IsFirst s (record { rank = j.rank; turn = first })
  pub later : first < j.turn
  pub is_ordered : j.turn ≤ s.ordered
  pub stands : 1 ≤ occurrences j.turn s.stacks
  pub soon : j.rank ≤ s.ordered → j.turn < j.rank

abbrev pub IsJob : Position → Job → Type 0
IsJob s j = IsFirst s j ⊎ IsLater s j

-- the one container stands above the other, in one row
pub record StandsAbove (s : Position) (upper lower : ℕ) : Type 0 where
  pub beneath : List ℕ
  pub stands : StandsOn s.stacks beneath upper
  pub held : IsTrue (holds lower beneath)

-- a comes before b: its turn is the earlier one; or it is of another container and of the same turn, and if a is a first job, b is one too, and a's container
-- stands above b's
abbrev pub ComesBefore : Position → Job → Job → Type 0
ComesBefore s a b = (a.turn < b.turn) ⊎ ((a.turn ≡ b.turn) × (a.rank ≢ b.rank) × (IsFirst s a → IsFirst s b × StandsAbove s a.rank b.rank))

-- each comes before all that follow it
abbrev pub AreInOrder : Position → List Job → Type 0
AreInOrder s [] = ⊤
AreInOrder s (j ∷ jobs) = AllByRecursion (ComesBefore s j) jobs × AreInOrder s jobs

-- what still stands of a stack when the turn of rank v comes: what is beneath its lowest container of a rank below v
abbrev pub standing_at : ℕ → List ℕ → List ℕ
standing_at v [] = []
standing_at v (x ∷ stack) = if nat_lt x v then [] else x ∷ standing_at v stack

-- the job is open to a row of this height: in its turn there is room, and the container whose turn it is does not stand there
abbrev pub is_open : ℕ → List ℕ → Job → Bool
is_open height stack j = nat_lt (length (standing_at j.turn stack)) height && not (holds j.turn (standing_at j.turn stack))

-- what the job leaves of the stack: what still stands, and its container on top
abbrev pub with_job : List ℕ → Job → List ℕ
with_job stack j = standing_at j.turn stack ++ j.rank ∷ []

-- all jobs are open, one after the other
abbrev pub AreOpen : ℕ → List ℕ → List Job → Type 0
AreOpen height stack [] = ⊤
AreOpen height stack (j ∷ jobs) = IsTrue (is_open height stack j) × AreOpen height (with_job stack j) jobs

-- a history: jobs that a row with this stack may have done, in their order
pub record IsHistory (s : Position) (height : ℕ) (stack : List ℕ) (history : List Job) : Type 0 where
  pub jobs : AllByRecursion (IsJob s) history
  pub in_order : AreInOrder s history
  pub each_open : AreOpen height stack history

-- the least ordered rank of a list; where there is none, the first that is not ordered
abbrev pub least_of : ℕ → List ℕ → ℕ
least_of ordered [] = suc ordered
least_of ordered (x ∷ xs) = min x (least_of ordered xs)

-- each ordered rank of the list is greater than c; where c is to stay, no rank of it is ordered
abbrev pub is_well_placed : ℕ → ℕ → List ℕ → Bool
is_well_placed ordered c stack = nat_lt (min c ordered) (least_of ordered stack)

-- what a job earns on what still stands: its price; where its container is badly placed, without the unit of one more relocation, and without the price of the
-- job that it has next, in the turn of the least rank there
abbrev pub earns_on : (ℕ → ℕ → ℕ) → ℕ → ℕ → List ℕ → Job → ℕ
earns_on price unit ordered standing j =
    if is_well_placed ordered j.rank standing then price j.rank j.turn else price j.rank j.turn - (unit + price j.rank (least_of ordered standing))

abbrev pub earns : (ℕ → ℕ → ℕ) → ℕ → ℕ → List ℕ → Job → ℕ
earns price unit ordered stack j = earns_on price unit ordered (standing_at j.turn stack) j

-- what jobs earn, done one after the other from this stack on
abbrev pub earned : (ℕ → ℕ → ℕ) → ℕ → ℕ → List ℕ → List Job → ℕ
earned price unit ordered stack [] = 0
earned price unit ordered stack (j ∷ jobs) = earns price unit ordered stack j + earned price unit ordered (with_job stack j) jobs

-- no history of the row at this index, from 0, earns more
abbrev pub IsMost : (ℕ → ℕ → ℕ) → ℕ → Position → ℕ → ℕ → Type 0
IsMost price unit s row most = (height : ℕ) (stack : List ℕ) (history : List Job) → slice_get s.heights row ≡ Some height → slice_get s.stacks row ≡ Some stack →
    IsHistory s height stack history → earned price unit s.ordered stack history ≤ most

-- one such number for each row
pub record AreMost (price : ℕ → ℕ → ℕ) (unit : ℕ) (s : Position) (mosts : List ℕ) : Type 0 where
  pub each_row : length mosts ≡ length s.stacks
  pub most : (row most : ℕ) → slice_get mosts row ≡ Some most → IsMost price unit s row most

-- the price of the first job of each container of the list that blocks, where `under` stands below the list
abbrev pub firsts_in : (ℕ → ℕ → ℕ) → ℕ → List ℕ → List ℕ → ℕ
firsts_in price ordered under [] = 0
firsts_in price ordered under (c ∷ stack) =
    (if holds_lower ordered c under then price c (least_of ordered under) else 0) + firsts_in price ordered (under ++ c ∷ []) stack

-- the prices of the first jobs of all that block
abbrev pub firsts : (ℕ → ℕ → ℕ) → Position → ℕ
firsts price s = sum_by (λ stack. firsts_in price s.ordered [] stack) s.stacks

-- the bound by prices: the blocking bound, and in units, rounded up, what the prices of all first jobs are above what the rows earn
abbrev pub price_bound : (ℕ → ℕ → ℕ) → ℕ → Position → List ℕ → ℕ
price_bound price unit s mosts = blocking s + div_ceil (firsts price s - sum mosts) unit
