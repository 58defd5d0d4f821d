-- Which of the legal rows the greedy rule chooses.
use Rattle.std.proofs.Common.{◌≡◌, ℕ, zero, suc, ◌+◌, ◌-◌, add-zero, refl, ◌<◌, ◌≤◌, ◌⊎◌, inl, inr, ⊎_elim, List, length, get_or, Contains, slice_get, Some, sym, ◌∙◌, subst, arith}
use Rattle.std.specs.List.Sorted.{IsStrictlyIncreasing}
use Rattle.std.proofs.lemmas.Bool.{cases_lt}
use Rattle.std.proofs.lemmas.List.{get_or_default}
use Rattle.std.proofs.lemmas.Option.{get_or_from_slice_get, slice_get_within}
use Rattle.crp_plan.specs.Bay.{Problem, Position}
use Rattle.crp_bay.specs.Positions.{targets}
use Rattle.crp_bay.proofs.Reaching.{can_from_target, shift_needs}
use Rattle.crp_search.specs.Greedy.{blocker, least_rank, IsLower, IsHigher, IsClosest, IsLatest, IsGreedyRow, IsBetter}

-- a row is no worse than another, and stands before it where they are alike
abbrev pub IsNoWorse : Problem → Position → ℕ → ℕ → Type 0
IsNoWorse p s row other =
    IsBetter (blocker s) (least_rank p s row) (least_rank p s other) ⊎ ((least_rank p s row ≡ least_rank p s other) × (row ≤ other))

-- a legal row is there
pub target_there : (s : Position) (row : ℕ) → Contains (targets s) row → (1 ≤ row) × (row ≤ length s.heights)
target_there s row c = let room = (shift_needs s row (can_from_target s row c)).1 in (room.counts, room.there)

-- the row at an index is a legal one
pub target_at : (s : Position) (i : ℕ) → i < length (targets s) → Contains (targets s) (get_or (targets s) i 0)
target_at s i lt = (i, lt, get_or_default (targets s) i (get_or (targets s) i 0) 0 lt)

-- of rows that rise, none is below an earlier one
pub rising_from : (rows : List ℕ) (i more : ℕ) → IsStrictlyIncreasing rows → i + more < length rows → get_or rows i 0 ≤ get_or rows (i + more) 0
rising_from rows i zero up lt = rw add-zero (omega arith)
rising_from rows i (suc more) up lt =
    let before : get_or rows i 0 ≤ get_or rows (i + more) 0 = rising_from rows i more up (omega arith) in
    let same : i + suc more ≡ i + more + 1 = omega arith in
    let next : get_or rows (i + more) 0 < get_or rows (i + more + 1) 0 = up (i + more) (omega arith) in
    rw same (omega arith)

-- the same by two indexes
pub rising_between : (rows : List ℕ) (i k : ℕ) → IsStrictlyIncreasing rows → i ≤ k → k < length rows → get_or rows i 0 ≤ get_or rows k 0
rising_between rows i k up le lt =
    let same : i + (k - i) ≡ k = omega arith in
    subst (λ j. get_or rows i 0 ≤ get_or rows j 0) same (rising_from rows i (k - i) up (omega arith))

-- a place that is better than a better one is better
pub better_on : (c a b o : ℕ) → IsBetter c a b → IsBetter c b o → IsBetter c a o
better_on c a b o (inl x) (inl y) = ⊎_elim (λ (low : b ≤ c). absurd (omega (arith, low, y.0))) (λ (less : a < b). ⊎_elim (λ (low : o ≤ c). inl (x.0, inl low)) (λ (less' : b < o). inl (x.0, inr (omega arith))) y.1) x.1
better_on c a b o (inl x) (inr y) = ⊎_elim (λ (low : b ≤ c). inl (x.0, inl (omega (arith, y.1)))) (λ (less : a < b). absurd (omega (arith, x.0, y.0))) x.1
better_on c a b o (inr x) (inl y) = absurd (omega (arith, x.0, x.1, y.0))
better_on c a b o (inr x) (inr y) = inr (x.0, omega (arith, x.1, y.1))

-- two places that do not block
both_over : (c a b : ℕ) → c < a → c < b → IsBetter c a b ⊎ ((a ≡ b) ⊎ IsBetter c b a)
both_over c a b over over' =
    ⊎_elim (λ (l : a < b). inl (inl (over, inr l))) (λ (ge : b ≤ a). ⊎_elim (λ (l : b < a). inr (inr (inl (over', inr l)))) (λ (le : a ≤ b). inr (inl (omega arith))) (cases_lt b a)) (cases_lt a b)

-- two places that do
both_under : (c a b : ℕ) → a ≤ c → b ≤ c → IsBetter c a b ⊎ ((a ≡ b) ⊎ IsBetter c b a)
both_under c a b under under' =
    ⊎_elim (λ (l : a < b). inr (inr (inr (under', l)))) (λ (ge : b ≤ a). ⊎_elim (λ (l : b < a). inl (inr (under, l))) (λ (le : a ≤ b). inr (inl (omega arith))) (cases_lt b a)) (cases_lt a b)

-- of two places one is better, or they are alike
pub one_better : (c a b : ℕ) → IsBetter c a b ⊎ ((a ≡ b) ⊎ IsBetter c b a)
one_better c a b =
    ⊎_elim
    (λ (over : c < a). ⊎_elim (λ (over' : c < b). both_over c a b over over') (λ (under : b ≤ c). inl (inl (over, inl under))) (cases_lt c b))
    (λ (under : a ≤ c). ⊎_elim (λ (over : c < b). inr (inr (inl (over, inl under)))) (λ (under' : b ≤ c). both_under c a b under under') (cases_lt c b))
    (cases_lt c a)

-- a row that is better than the best so far is no worse than all before it
pub beats : (p : Problem) (s : Position) (row best other : ℕ) → IsBetter (blocker s) (least_rank p s row) (least_rank p s best) → IsNoWorse p s best other → IsNoWorse p s row other
beats p s row best other x (inl y) = inl (better_on (blocker s) (least_rank p s row) (least_rank p s best) (least_rank p s other) x y)
beats p s row best other x (inr y) = inl (subst (λ (r : ℕ). IsBetter (blocker s) (least_rank p s row) r) y.0 x)

-- a row that is not better, and not below the best so far, is no better choice
pub stays : (p : Problem) (s : Position) (row best : ℕ) → (IsBetter (blocker s) (least_rank p s row) (least_rank p s best) → ⊥) → best ≤ row → IsNoWorse p s best row
stays p s row best worse le =
    ⊎_elim (λ x. absurd (worse x)) (λ x. ⊎_elim (λ (e : least_rank p s row ≡ least_rank p s best). inr (sym e, le)) (λ y. inl y) x) (one_better (blocker s) (least_rank p s row) (least_rank p s best))

-- of two rows that do not block, the one that is no worse is the lower
lower : (p : Problem) (s : Position) (row other : ℕ) → blocker s < least_rank p s row → blocker s < least_rank p s other → IsNoWorse p s row other → IsLower p s row other
lower p s row other over over' (inl (inl x)) = ⊎_elim (λ (low : least_rank p s other ≤ blocker s). absurd (omega (arith, low, over'))) (λ l. inl l) x.1
lower p s row other over over' (inl (inr x)) = absurd (omega (arith, x.0, over))
lower p s row other over over' (inr x) = inr x

-- where the row that is no worse blocks, so does the other
blocks_too : (p : Problem) (s : Position) (row other : ℕ) → least_rank p s row ≤ blocker s → IsNoWorse p s row other → least_rank p s other ≤ blocker s
blocks_too p s row other under (inl (inl x)) = absurd (omega (arith, x.0, under))
blocks_too p s row other under (inl (inr x)) = omega (arith, x.0, x.1)
blocks_too p s row other under (inr x) = omega (arith, x.0, under)

-- of two rows that block, the one that is no worse is the higher
higher : (p : Problem) (s : Position) (row other : ℕ) → least_rank p s row ≤ blocker s → IsNoWorse p s row other → IsHigher p s row other
higher p s row other under (inl (inl x)) = absurd (omega (arith, x.0, under))
higher p s row other under (inl (inr x)) = inl x.1
higher p s row other under (inr x) = inr x

-- the row that is no worse than any legal one is the greedy one
pub is_greedy : (p : Problem) (s : Position) (row : ℕ) → Contains (targets s) row → ((other : ℕ) → Contains (targets s) other → IsNoWorse p s row other) → IsGreedyRow p s row
is_greedy p s row legal best = record {
  legal = legal;
  chosen = ⊎_elim
      (λ (over : blocker s < least_rank p s row). inl (record { greater = over; smallest = λ other there over'. lower p s row other over over' (best other there) }))
      (λ (under : least_rank p s row ≤ blocker s). inr (record { none_greater = λ other there. blocks_too p s row other under (best other there); largest = λ other there. higher p s row other under (best other there) }))
      (cases_lt (blocker s) (least_rank p s row));
}

-- two rows that each stand before the other are one
one_of_lower : (p : Problem) (s : Position) (row other : ℕ) → IsLower p s row other → IsLower p s other row → row ≡ other
one_of_lower p s row other (inl x) (inl y) = absurd (omega (arith, x, y))
one_of_lower p s row other (inl x) (inr y) = absurd (omega (arith, x, y.0))
one_of_lower p s row other (inr x) (inl y) = absurd (omega (arith, x.0, y))
one_of_lower p s row other (inr x) (inr y) = omega (arith, x.1, y.1)

-- the same with the higher rank first
one_of_higher : (p : Problem) (s : Position) (row other : ℕ) → IsHigher p s row other → IsHigher p s other row → row ≡ other
one_of_higher p s row other (inl x) (inl y) = absurd (omega (arith, x, y))
one_of_higher p s row other (inl x) (inr y) = absurd (omega (arith, x, y.0))
one_of_higher p s row other (inr x) (inl y) = absurd (omega (arith, x.0, y))
one_of_higher p s row other (inr x) (inr y) = omega (arith, x.1, y.1)

chosen_once : (p : Problem) (s : Position) (row other : ℕ) → Contains (targets s) row → Contains (targets s) other → IsClosest p s row ⊎ IsLatest p s row → IsClosest p s other ⊎ IsLatest p s other → row ≡ other
chosen_once p s row other here there (inl a) (inl b) = one_of_lower p s row other (a.smallest other there b.greater) (b.smallest row here a.greater)
chosen_once p s row other here there (inl a) (inr b) = absurd (omega (arith, a.greater, b.none_greater row here))
chosen_once p s row other here there (inr a) (inl b) = absurd (omega (arith, b.greater, a.none_greater other there))
chosen_once p s row other here there (inr a) (inr b) = one_of_higher p s row other (a.largest other there) (b.largest row here)

-- the rule chooses one row
pub one_row : (p : Problem) (s : Position) (row other : ℕ) → IsGreedyRow p s row → IsGreedyRow p s other → row ≡ other
one_row p s row other a b = chosen_once p s row other a.legal b.legal a.chosen b.chosen

-- the best row so far: a legal one, no later one is below it, and it is no worse than all before the index
pub record IsBestSoFar (p : Problem) (s : Position) (i best : ℕ) : Type 0 where
  pub legal : Contains (targets s) best
  pub low : (k : ℕ) → i ≤ k → k < length (targets s) → best ≤ get_or (targets s) k 0
  pub done : (k : ℕ) → k < i → IsNoWorse p s best (get_or (targets s) k 0)

-- the row at the index is better
pub takes_over : (p : Problem) (s : Position) (i best row : ℕ) → IsStrictlyIncreasing (targets s) → i < length (targets s) → row ≡ get_or (targets s) i 0 → IsBestSoFar p s i best →
    IsBetter (blocker s) (least_rank p s row) (least_rank p s best) → IsBestSoFar p s (i + 1) row
takes_over p s i best row up lt e so_far better = record {
  legal = rw e (target_at s i lt);
  low = λ k le ltk. rw e (rising_between (targets s) i k up (omega arith) ltk);
  done = λ k ltk. ⊎_elim (λ (l : k < i). beats p s row best (get_or (targets s) k 0) better (so_far.done k l)) (λ (ge : i ≤ k). let same : k ≡ i = omega arith in rw (same, ← e) (inr (refl, omega arith))) (cases_lt k i);
}

-- it is not
pub stays_best : (p : Problem) (s : Position) (i best row : ℕ) → i < length (targets s) → row ≡ get_or (targets s) i 0 → IsBestSoFar p s i best →
    (IsBetter (blocker s) (least_rank p s row) (least_rank p s best) → ⊥) → IsBestSoFar p s (i + 1) best
stays_best p s i best row lt e so_far worse = record {
  legal = so_far.legal;
  low = λ k le ltk. so_far.low k (omega arith) ltk;
  done = λ k ltk. ⊎_elim (λ (l : k < i). so_far.done k l) (λ (ge : i ≤ k). let same : k ≡ i = omega arith in rw (same, ← e) (stays p s row best worse (rw e (so_far.low i (omega arith) lt)))) (cases_lt k i);
}

-- after the last row the best is the greedy one
pub best_of_all : (p : Problem) (s : Position) (i best : ℕ) → length (targets s) ≤ i → IsBestSoFar p s i best → IsGreedyRow p s best
best_of_all p s i best past so_far =
    is_greedy p s best so_far.legal (λ other there. subst (λ (r : ℕ). IsNoWorse p s best r) (get_or_default (targets s) there.0 0 other there.1 ∙ there.2) (so_far.done there.0 (omega (arith, there.1))))

-- the row at an index of the list is a legal one
pub looked_at : (s : Position) (items : List ℕ) (i : ℕ) → items ≡ targets s → i < length items → Contains (targets s) (get_or items i 0)
looked_at s items i same lt = rw same (target_at s i (subst (λ l. i < length l) same lt))

-- the first row of the list is a legal one
pub first_target : (s : Position) (items : List ℕ) (row : ℕ) → items ≡ targets s → slice_get items 0 ≡ Some row → Contains (targets s) row
first_target s items row same e = subst (Contains (targets s)) (get_or_from_slice_get items 0 row 0 e) (looked_at s items 0 same (slice_get_within items 0 row e))

-- the same numbers are better
pub same_better : (c c' a a' b b' : ℕ) → c ≡ c' → a ≡ a' → b ≡ b' → IsBetter c a b → IsBetter c' a' b'
same_better c c' a a' b b' ec ea eb x = subst (λ n. IsBetter n a' b') ec (subst (λ n. IsBetter c n b') ea (subst (λ n. IsBetter c a n) eb x))
