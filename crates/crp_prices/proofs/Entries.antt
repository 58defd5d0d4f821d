-- Columns, entry by entry.
use Rattle.std.proofs.Common.{◌≡◌, ℕ, zero, suc, ◌+◌, ◌-◌, ◌<◌, ◌≤◌, max, true, false, List, [], ◌∷◌, length, slice_index, slice_set, ap, arith}
use Rattle.crp_prices.specs.Columns.{entry}

-- one more entry is written
pub written : (f : ℕ → ℕ) (column : List ℕ) (room value : ℕ) → room < length column → ((k : ℕ) → k < room → slice_index column k ≡ f k) → value ≡ f room →
    (k : ℕ) → k < room + 1 → slice_index (slice_set column room value) k ≡ f k
written f [] room value lt each is k k_lt = absurd (omega arith)
written f (x ∷ column) zero value lt each is zero k_lt = is
written f (x ∷ column) zero value lt each is (suc k) k_lt = absurd (omega arith)
written f (x ∷ column) (suc room) value lt each is zero k_lt = each zero (omega arith)
written f (x ∷ column) (suc room) value lt each is (suc k) k_lt =
    written (λ n. f (suc n)) column room value (omega arith) (λ n n_lt. each (suc n) (omega arith)) is k (omega arith)

pub low_entry : (paid : ℕ) (after resumed inner : List ℕ) (room : ℕ) → 1 ≤ room →
    entry true paid after resumed inner room ≡ max (slice_index after room) (paid + slice_index inner (room - 1) + slice_index resumed room)
low_entry paid after resumed inner zero some = absurd (omega arith)
low_entry paid after resumed inner (suc m) some =
    let e : suc m - 1 ≡ m = omega arith in
    let same : slice_index inner (suc m - 1) ≡ slice_index inner m = ap (slice_index inner) e in
    omega (arith, same)

pub top_entry : (paid : ℕ) (after : List ℕ) (room : ℕ) → 1 ≤ room → entry false paid after [] [] room ≡ max (slice_index after room) (paid + slice_index after (room - 1))
top_entry paid after zero some = absurd (omega arith)
top_entry paid after (suc m) some =
    let e : suc m - 1 ≡ m = omega arith in
    let same : slice_index after (suc m - 1) ≡ slice_index after m = ap (slice_index after) e in
    omega (arith, same)
