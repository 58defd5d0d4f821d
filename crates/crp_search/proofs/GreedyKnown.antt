-- Of each problem it is known whether the greedy rule leads to a plan.
use Rattle.std.proofs.Common.{◌≡◌, ℕ, zero, suc, ◌+◌, ◌<◌, ◌≤◌, ◌⊎◌, inl, inr, ⊎_elim, List, [], ◌∷◌, ◌++◌, length, get_or, refl, arith, length-append}
use Rattle.std.proofs.lemmas.Bool.{cases_lt}
use Rattle.crp_plan.specs.Bay.{Problem, IsProblem, start, Position}
use Rattle.crp_plan.proofs.Steps.{short_path}
use Rattle.crp_bay.specs.Positions.{targets, child, settled}
use Rattle.crp_bay.proofs.Reaching.{reached_next, targets_rise}
use Rattle.crp_bay.proofs.Walked.{begins_at, target_goes_on}
use Rattle.crp_search.specs.Greedy.{blocker, least_rank, IsGreedyRow, IsGreedyPath, IsBetter}
use Rattle.crp_search.proofs.Choice.{target_at, rising_between, IsBestSoFar, takes_over, stays_best, best_of_all}
use Rattle.crp_search.proofs.Greedily.{IsGreedyFront, front_begins, front_grows, front_ends, front_stops}

-- where neither blocks, a place is no better than one with a rank that is no larger
not_over : (c a b : ℕ) → c < a → c < b → b ≤ a → IsBetter c a b → ⊥
not_over c a b over high le (inl x) = ⊎_elim (λ (low : b ≤ c). absurd (omega (arith, low, high))) (λ (less : a < b). absurd (omega (arith, less, le))) x.1
not_over c a b over high le (inr x) = absurd (omega (arith, x.0, over))

-- one that blocks is no better than one with a rank that is no smaller
not_under : (c a b : ℕ) → a ≤ c → a ≤ b → IsBetter c a b → ⊥
not_under c a b under le (inl x) = absurd (omega (arith, x.0, under))
not_under c a b under le (inr x) = absurd (omega (arith, x.1, le))

-- a place is better than another, or it is not
better_known : (c a b : ℕ) → IsBetter c a b ⊎ (IsBetter c a b → ⊥)
better_known c a b =
    ⊎_elim
    (λ (over : c < a). ⊎_elim
    (λ (high : c < b). ⊎_elim (λ (less : a < b). inl (inl (over, inr less))) (λ (le : b ≤ a). inr (not_over c a b over high le)) (cases_lt a b))
    (λ (low : b ≤ c). inl (inl (over, inl low)))
    (cases_lt c b))
    (λ (under : a ≤ c). ⊎_elim (λ (less : b < a). inl (inr (under, less))) (λ (le : a ≤ b). inr (not_under c a b under le)) (cases_lt b a))
    (cases_lt c a)

-- the greedy row is found among the rows from an index on, of which there are so many more, and the best of those before
row_from : (more : ℕ) (p : Problem) (s : Position) (i best : ℕ) → length (targets s) ≡ i + more → IsBestSoFar p s i best → (row : ℕ) × IsGreedyRow p s row
row_from zero p s i best e so_far = (best, best_of_all p s i best (omega arith) so_far)
row_from (suc more) p s i best e so_far =
    let row : ℕ = get_or (targets s) i 0 in
    let lt : i < length (targets s) = omega arith in
    ⊎_elim
    (λ better. row_from more p s (i + 1) row (omega arith) (takes_over p s i best row (targets_rise s) lt refl so_far better))
    (λ worse. row_from more p s (i + 1) best (omega arith) (stays_best p s i best row lt refl so_far worse))
    (better_known (blocker s) (least_rank p s row) (least_rank p s best))

-- where a relocation is legal there is a greedy row
row_there : (p : Problem) (s : Position) → 0 < length (targets s) → (row : ℕ) × IsGreedyRow p s row
row_there p s some = row_from (length (targets s)) p s 0 (get_or (targets s) 0 0) (omega arith) (record {
  legal = target_at s 0 some;
  low = λ k le lt. rising_between (targets s) 0 k (targets_rise s) le lt;
  done = λ k lt. absurd (omega (arith, lt));
})

none_or_some : (rows : List ℕ) → (rows ≡ []) ⊎ (0 < length rows)
none_or_some [] = inl refl
none_or_some (row ∷ rows) = inr (omega arith)

-- there is a greedy plan, or there is none
abbrev pub IsKnown : Problem → Type 0
IsKnown p = ((path : List ℕ) × IsGreedyPath p path) ⊎ ((path : List ℕ) → IsGreedyPath p path → ⊥)

-- a path that follows the rule is followed on to its end, for which so many steps more suffice
known_from : (more : ℕ) (p : Problem) (path : List ℕ) (s : Position) → IsProblem p → IsGreedyFront p path s → 672 < more + length path → IsKnown p
known_from zero p path s is f lt = absurd (omega (arith, short_path p path s is f.at, lt))
known_from (suc more) p path s is f lt =
    let within = (reached_next s (record { problem = p; path = path; is_problem = is; is_at = f.at })).1 in
    ⊎_elim
    (λ (open' : s.next < suc s.ordered). ⊎_elim
    (λ (none : targets s ≡ []). inr (front_stops p path s is f (omega (arith, open')) none))
    (λ (some : 0 < length (targets s)).
    let row = row_there p s some in
    let on = target_goes_on p path s row.0 is f.at row.1.legal in
    known_from more p (path ++ row.0 ∷ []) (child s row.0) is (front_grows p path row.0 s (child s row.0) is f (omega (arith, open')) row.1 on)
    (omega (arith, length-append path (row.0 ∷ []), lt)))
    (none_or_some (targets s)))
    (λ (end : suc s.ordered ≤ s.next). inl (path, front_ends p path s f (omega (arith, within, end))))
    (cases_lt s.next (suc s.ordered))

-- so it is from the start
pub greedy_known : (p : Problem) → IsProblem p → IsKnown p
greedy_known p is = known_from 673 p [] (settled (start p)) is (front_begins p (settled (start p)) (begins_at p is)) (omega arith)
