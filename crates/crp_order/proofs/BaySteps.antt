-- A bay by the ranks of its containers.
use Rattle.std.proofs.Common.{◌≡◌, ◌≤◌, ◌<◌, ◌+◌, ◌-◌, ◌==◌, ℕ, suc, Bool, true, false, cond, not, List, [], ◌∷◌, ◌++◌, length, map, get_or, refl, sym, ap, ◌∙◌, arith, length-append}
use Rattle.std.specs.Prelude.{filter}
use Rattle.std.specs.Str.{bytes_eq}
use Rattle.crp_plan.specs.Bay.{IsProblem}
use Rattle.crp_plan.specs.Rows.{occurrences, total, FitRows}
use Rattle.crp_plan.specs.Faults.{stated_with, AreRanks, AreHeights}
use Rattle.crp_plan.proofs.Steps.{same_rows}
use Rattle.crp_plan.proofs.Heights.{made_with}
use Rattle.crp_plan.proofs.Lists.{times as rank_times, times-cons as rank_times-cons, occurrences-cons}
use Rattle.std.proofs.lemmas.List.{length-map}
use Rattle.std.proofs.lemmas.List.Sums.{sum_by-cons}
use Rattle.std.proofs.lemmas.Bool.{eqb-true}
use Rattle.crp_yard.specs.Inventory.{times, is_among, FitBay}
use Rattle.crp_order.specs.BayProblems.{standing, rank_in, ranks_in}
use Rattle.crp_order.specs.Groups.{names_behind, CanLeave}
use Rattle.crp_yard.proofs.ListingSteps.{times-append, times_absent}
use Rattle.crp_order.proofs.Once.{one_if, here, some_times, times-filter, once, one_length}
use Rattle.crp_order.proofs.RankSteps.{rank_low, rank_high, within, rank_at}

-- how many containers pass the test
abbrev count : (List ℕ → Bool) → List (List ℕ) → ℕ
count p [] = 0
count p (x ∷ xs) = one_if (p x) + count p xs

count-append : (p : List ℕ → Bool) (xs ys : List (List ℕ)) → count p (xs ++ ys) ≡ count p xs + count p ys
count-append p [] ys = omega arith
count-append p (x ∷ xs) ys = omega (arith, count-append p xs ys)

count-same : (p q : List ℕ → Bool) (xs : List (List ℕ)) → ((c : List ℕ) → p c ≡ q c) → count p xs ≡ count q xs
count-same p q [] h = refl
count-same p q (x ∷ xs) h = let e : p x ≡ q x = h x in rw e (omega (arith, count-same p q xs h))

-- how often a container stands in a list, by the test
count-times : (c : List ℕ) (xs : List (List ℕ)) → count (bytes_eq c) xs ≡ times c xs
count-times c [] = refl
count-times c (x ∷ xs) = omega (arith, count-times c xs)

-- the names of a bay: those that leave it, and behind them those that stay
pub names-times : (left : List (List ℕ)) (stacks : List (List (List ℕ))) → CanLeave left stacks → ((c : List ℕ) → times c (standing stacks) ≤ 1)
    → (c : List ℕ) → times c (names_behind left stacks) ≡ times c (standing stacks)
names-times left stacks can once c =
    times-append c left (filter (λ d. not (is_among left d)) (standing stacks))
    ∙ ap (λ n. times c left + n) (times-filter (λ d. not (is_among left d)) c (standing stacks))
    ∙ by (is_among left c) refl
  where
    by : (b : Bool) → is_among left c ≡ b → times c left + cond (not b) (times c (standing stacks)) 0 ≡ times c (standing stacks)
    by true e =
        let stands : 1 ≤ times c (standing stacks) = some_times c (standing stacks) (can.there c e) in
        let low = once c in let left_low = can.once c in
        omega (arith, stands, low, left_low, some_times c left e)
    by false e = omega (arith, times_absent c left e)

pub names-length : (left : List (List ℕ)) (stacks : List (List (List ℕ))) → CanLeave left stacks → ((c : List ℕ) → times c (standing stacks) ≤ 1)
    → length (names_behind left stacks) ≡ length (standing stacks)
names-length left stacks can once = one_length (names_behind left stacks) (standing stacks) (names-times left stacks can once)

-- the ranks that stand in the stacks
ranks_times : (r : List ℕ → ℕ) (x : ℕ) (stack : List (List ℕ)) → rank_times x (map r stack) ≡ count (λ c. r c == x) stack
ranks_times r x [] = refl
ranks_times r x (c ∷ stack) = rank_times-cons x (r c) (map r stack) ∙ ap (λ n. one_if (r c == x) + n) (ranks_times r x stack)

ranks_occur : (names : List (List ℕ)) (x : ℕ) (stacks : List (List (List ℕ))) → occurrences x (ranks_in names stacks) ≡ count (λ c. rank_in names c == x) (standing stacks)
ranks_occur names x [] = refl
ranks_occur names x (stack ∷ stacks) =
    let here : rank_times x (map (rank_in names) stack) ≡ count (λ c. rank_in names c == x) stack = ranks_times (rank_in names) x stack in
    let there : occurrences x (ranks_in names stacks) ≡ count (λ c. rank_in names c == x) (standing stacks) = ranks_occur names x stacks in
    omega (arith, here, there, occurrences-cons x (map (rank_in names) stack) (ranks_in names stacks), count-append (λ c. rank_in names c == x) stack (standing stacks))

pub ranks_total : (names : List (List ℕ)) (stacks : List (List (List ℕ))) → total (ranks_in names stacks) ≡ length (standing stacks)
ranks_total names [] = refl
ranks_total names (stack ∷ stacks) =
    omega (arith, sum_by-cons length (map (rank_in names) stack) (ranks_in names stacks), length-map stack (rank_in names), length-append stack (standing stacks), ranks_total names stacks)

-- a rank that some container has is that of a place among the names
ranks_within : (names : List (List ℕ)) (x : ℕ) (xs : List (List ℕ)) → ((c : List ℕ) → 1 ≤ times c xs → 1 ≤ times c names) → 0 < count (λ c. rank_in names c == x) xs
    → (1 ≤ x) × (x ≤ length names)
ranks_within names x [] all some = absurd (omega arith)
ranks_within names x (c ∷ xs) all some =
    by (rank_in names c == x) refl some (ranks_within names x xs (λ d h. all d (omega (arith, h))))
  where
    by : (b : Bool) → (rank_in names c == x) ≡ b → 0 < one_if b + count (λ d. rank_in names d == x) xs
        → (0 < count (λ d. rank_in names d == x) xs → (1 ≤ x) × (x ≤ length names)) → (1 ≤ x) × (x ≤ length names)
    by true e h later =
        let is : rank_in names c ≡ x = eqb-true (rank_in names c) x e in
        (omega (arith, is, rank_low names c), omega (arith, is, rank_high names c (all c (here c xs))))
    by false e h later = later (omega (arith, h))

-- each rank from 1 to the number of containers stands in one place
pub ranks_once : (names : List (List ℕ)) (stacks : List (List (List ℕ))) → ((c : List ℕ) → times c names ≡ times c (standing stacks)) → ((c : List ℕ) → times c (standing stacks) ≤ 1)
    → AreRanks (ranks_in names stacks)
ranks_once names stacks alike once = record {
  each_once = λ x low high.
      let k : ℕ = x - 1 in
      let is : x ≡ suc k = omega arith in
      let small : k < length names = omega (arith, high, ranks_total names stacks, one_length names (standing stacks) alike) in
      let counted : count (λ c. rank_in names c == suc k) (standing stacks) ≡ times (get_or names k []) (standing stacks) =
      count-same (λ c. rank_in names c == suc k) (bytes_eq (get_or names k [])) (standing stacks) (λ c. rank_at names c k small (λ d. omega (arith, alike d, once d)))
      ∙ count-times (get_or names k []) (standing stacks) in
      rw (ranks_occur names x stacks, is, counted) (omega (arith, within names k small, alike (get_or names k []), once (get_or names k [])));
  no_other = λ x some.
      let found = ranks_within names x (standing stacks) (λ c h. omega (arith, h, alike c)) (rw (ranks_occur names x stacks) at some) in
      (found.0, omega (arith, found.1, ranks_total names stacks, one_length names (standing stacks) alike));
}

-- the ranks of a stack are no more than its containers
ranks_fit : (heights : List ℕ) (names : List (List ℕ)) (stacks : List (List (List ℕ))) → FitBay heights stacks → FitRows heights (ranks_in names stacks)
ranks_fit [] names [] fit = tt
ranks_fit [] names (stack ∷ stacks) fit = absurd fit
ranks_fit (height ∷ heights) names [] fit = absurd fit
ranks_fit (height ∷ heights) names (stack ∷ stacks) fit = (rw (length-map stack (rank_in names)) fit.0, ranks_fit heights names stacks fit.1)

-- a bay by ranks is a problem
pub problem_stated : (heights : List ℕ) (left : List (List ℕ)) (stacks : List (List (List ℕ))) → AreHeights heights → 1 ≤ length heights → length heights ≤ 12 → FitBay heights stacks → CanLeave left stacks
    → ((c : List ℕ) → times c (standing stacks) ≤ 1) → IsProblem (stated_with heights (length left) (ranks_in (names_behind left stacks) stacks))
problem_stated heights left stacks are some few fit can once =
    let names = names_behind left stacks in
    let low = ranks_fit heights names stacks fit in
    let n : length (ranks_in names stacks) ≡ length heights = same_rows heights (ranks_in names stacks) low in
    made_with heights (length left) (ranks_in names stacks) ((omega (arith, n), omega (arith, n)), sym n) are low
    (ranks_once names stacks (names-times left stacks can once) once)
    (omega (arith, ranks_total names stacks, names-length left stacks can once, length-append left (filter (λ d. not (is_among left d)) (standing stacks))))
