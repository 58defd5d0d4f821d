-- A column by one more job.
use Rattle.std.proofs.Common.{◌≡◌, ℕ, zero, suc, ◌+◌, ◌<◌, ◌≤◌, Bool, true, false, nat_lt, List, [], ◌∷◌, length, slice_index, refl, sym, ap, ◌∙◌, inl, inr, ⊎_elim, arith}
use Rattle.std.specs.Prelude.{if◌then◌else◌}
use Rattle.std.proofs.lemmas.Bool.{cases_Bool, cases_lt, lt-ltb, le-ltb}
use Rattle.crp_prices.specs.declared.job.MarkedJob.{MarkedJob}
use Rattle.crp_prices.specs.Pass.{Has, is_within, earns_above, offer, scan, best}
use Rattle.crp_prices.specs.Columns.{from_on, AreRising, entry, IsColumn, IsInner}
use Rattle.crp_prices.proofs.Growing.{part_own, offer_grows, best_grows, within_parts, within_from}
use Rattle.crp_prices.proofs.Taking.{skips, early}

-- where no job is in an earlier turn, it makes no difference that those are left out
scan_from : (price : ℕ → ℕ → ℕ) (unit ordered : ℕ) (all : List MarkedJob) (inner : ℕ → ℕ → List MarkedJob → ℕ) (v : ℕ) →
    ((low : ℕ) (jobs : List MarkedJob) → ((y : MarkedJob) → Has y jobs → v ≤ y.turn) → inner low 0 jobs ≤ inner low v jobs) → (low : ℕ) (jobs : List MarkedJob) →
    ((y : MarkedJob) → Has y jobs → v ≤ y.turn) → scan price unit ordered all inner low 0 jobs ≤ scan price unit ordered all inner low v jobs
scan_from price unit ordered all inner v is low [] late = omega arith
scan_from price unit ordered all inner v is low (x ∷ jobs) late =
    let rest : (y : MarkedJob) → Has y jobs → v ≤ y.turn = λ y has. late y (inr has) in
    let skipped = scan_from price unit ordered all inner v is low jobs rest in
    let taken = offer_grows (is_within low 0 x) (is_within low v x) (nat_lt x.rank low) (price x.rank x.turn)
    (if x.is_later then inner x.rank x.turn all else inner x.rank 0 jobs) (if x.is_later then inner x.rank x.turn all else inner x.rank v jobs)
    (scan price unit ordered all inner low (suc x.rank) jobs) (scan price unit ordered all inner low (suc x.rank) jobs)
    (earns_above price unit ordered low x) (inner low 0 jobs) (inner low v jobs)
    (λ h. let d = within_parts low 0 x h in within_from low v x d.0 (late x (inl refl)))
    (choice x.is_later (inner x.rank x.turn all) (inner x.rank 0 jobs) (inner x.rank v jobs) (is x.rank jobs rest))
    (omega arith)
    (is low jobs rest) in
    omega (arith, skipped, taken)
  where
    choice : (b : Bool) (same less more : ℕ) → less ≤ more → (if b then same else less) ≤ (if b then same else more)
    choice true same less more le = omega arith
    choice false same less more le = le

all_from : (price : ℕ → ℕ → ℕ) (unit ordered : ℕ) (all : List MarkedJob) (room low v : ℕ) (jobs : List MarkedJob) → ((y : MarkedJob) → Has y jobs → v ≤ y.turn) →
    best price unit ordered all room low 0 jobs ≤ best price unit ordered all room low v jobs
all_from price unit ordered all zero low v jobs late = omega arith
all_from price unit ordered all (suc room) low v jobs late =
    scan_from price unit ordered all (best price unit ordered all room) v (λ l c k. all_from price unit ordered all room l v c k) low jobs late

-- leaving out the jobs of earlier turns, and reading from the first one on that is not
pub read_from : (price : ℕ → ℕ → ℕ) (unit ordered : ℕ) (all : List MarkedJob) (room low v : ℕ) (jobs : List MarkedJob) → AreRising jobs →
    best price unit ordered all room low v jobs ≡ best price unit ordered all room low 0 (from_on v jobs)
read_from price unit ordered all zero low v [] r = refl
read_from price unit ordered all (suc room) low v [] r = refl
read_from price unit ordered all room low v (x ∷ jobs) r = ⊎_elim
    (λ lt.
    let e : from_on v (x ∷ jobs) ≡ from_on v jobs = rw (lt-ltb x.turn v lt) refl in
    omega (
      arith,
      early price unit ordered all room low v x jobs lt,
      skips price unit ordered all room low v x jobs,
      read_from price unit ordered all room low v jobs r.1,
      ap (λ l. best price unit ordered all room low 0 l) e,
    ))
    (λ ge.
    let e : from_on v (x ∷ jobs) ≡ x ∷ jobs = rw (le-ltb x.turn v ge) refl in
    omega (
      arith,
      all_from price unit ordered all room low v (x ∷ jobs) (λ y has. ⊎_elim (λ same. let t : x.turn ≡ y.turn = ap (λ (z : MarkedJob). z.turn) same in omega arith) (λ o. omega (arith, r.0 y o)) has),
      best_grows price unit ordered all room low v 0 (x ∷ jobs) (x ∷ jobs) (omega arith) (part_own (x ∷ jobs)),
      ap (λ l. best price unit ordered all room low 0 l) e,
    ))
    (cases_lt x.turn v)

-- where all jobs are of the low's turn or later, nothing comes in
pub none_in : (price : ℕ → ℕ → ℕ) (unit ordered : ℕ) (all : List MarkedJob) (low : ℕ) (jobs : List MarkedJob) → ((y : MarkedJob) → Has y jobs → low ≤ y.turn) → (room : ℕ) →
    best price unit ordered all room low 0 jobs ≡ 0
none_in price unit ordered all low jobs late zero = refl
none_in price unit ordered all low [] late (suc room) = refl
none_in price unit ordered all low (x ∷ jobs) late (suc room) =
    let own : ℕ = if x.is_later then best price unit ordered all room x.rank x.turn all else best price unit ordered all room x.rank 0 jobs in
    let brings : offer (is_within low 0 x) (nat_lt x.rank low) (price x.rank x.turn) own
    (best price unit ordered all (suc room) low (suc x.rank) jobs) (earns_above price unit ordered low x) (best price unit ordered all room low 0 jobs) ≡ 0 = rw none refl in
    omega (arith, brings, none_in price unit ordered all low jobs (λ y has. late y (inr has)) (suc room))
  where
    none : is_within low 0 x ≡ false
    none = ⊎_elim (λ t. let d = within_parts low 0 x t in let lt : x.turn < low = d.0 in absurd (omega (arith, late x (inl refl)))) (λ f. f) (cases_Bool (is_within low 0 x))

-- a job that is taken as the new low
pub low_column : (price : ℕ → ℕ → ℕ) (unit ordered : ℕ) (all : List MarkedJob) (low : ℕ) (x : MarkedJob) (jobs : List MarkedJob) (after resumed inner column : List ℕ) → x.turn < low → x.rank < low →
    AreRising jobs → IsColumn price unit ordered all low jobs after → IsColumn price unit ordered all low (from_on (suc x.rank) jobs) resumed → IsInner price unit ordered all x jobs inner →
    length column ≡ 9 → ((k : ℕ) → k < 9 → slice_index column k ≡ entry true (price x.rank x.turn) after resumed inner k) → IsColumn price unit ordered all low (x ∷ jobs) column
low_column price unit ordered all low x jobs after resumed inner column lt below rising a r i long each = record { rooms = long; brings = brings }
  where
    brings : (room : ℕ) → room < 9 → slice_index column room ≡ (best price unit ordered all room low 0 (x ∷ jobs))
    brings zero k = omega (arith, each zero k, a.brings zero k)
    brings (suc room) k =
        let own : ℕ = if x.is_later then best price unit ordered all room x.rank x.turn all else best price unit ordered all room x.rank 0 jobs in
        let on : ℕ = best price unit ordered all (suc room) low (suc x.rank) jobs in
        let taken : offer (is_within low 0 x) (nat_lt x.rank low) (price x.rank x.turn) own on (earns_above price unit ordered low x) (best price unit ordered all room low 0 jobs)
        ≡ price x.rank x.turn + (own + on) = rw (within_from low 0 x lt (omega arith)) (rw (lt-ltb x.rank low below) refl) in
        let inside : slice_index inner room ≡ own = i.brings room (omega arith) in
        let later : slice_index resumed (suc room) ≡ on =
        r.brings (suc room) k ∙ sym (read_from price unit ordered all (suc room) low (suc x.rank) jobs rising) in
        omega (arith, each (suc room) k, a.brings (suc room) k, taken, inside, later)

-- a job that is taken and is no new low
pub top_column : (price : ℕ → ℕ → ℕ) (unit ordered : ℕ) (all : List MarkedJob) (low : ℕ) (x : MarkedJob) (jobs : List MarkedJob) (after column : List ℕ) → x.turn < low → low ≤ x.rank →
    IsColumn price unit ordered all low jobs after → length column ≡ 9 →
    ((k : ℕ) → k < 9 → slice_index column k ≡ entry false (earns_above price unit ordered low x) after [] [] k) → IsColumn price unit ordered all low (x ∷ jobs) column
top_column price unit ordered all low x jobs after column lt high a long each = record { rooms = long; brings = brings }
  where
    brings : (room : ℕ) → room < 9 → slice_index column room ≡ (best price unit ordered all room low 0 (x ∷ jobs))
    brings zero k = omega (arith, each zero k, a.brings zero k)
    brings (suc room) k =
        let own : ℕ = if x.is_later then best price unit ordered all room x.rank x.turn all else best price unit ordered all room x.rank 0 jobs in
        let taken : offer (is_within low 0 x) (nat_lt x.rank low) (price x.rank x.turn) own (best price unit ordered all (suc room) low (suc x.rank) jobs)
        (earns_above price unit ordered low x) (best price unit ordered all room low 0 jobs) ≡ earns_above price unit ordered low x + best price unit ordered all room low 0 jobs =
        rw (within_from low 0 x lt (omega arith)) (rw (le-ltb x.rank low high) refl) in
        omega (arith, each (suc room) k, a.brings (suc room) k, a.brings room (omega arith), taken)
