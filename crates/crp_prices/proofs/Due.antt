-- The prices of first jobs under moves.
use Rattle.std.proofs.Common.{◌≡◌, ℕ, ◌+◌, ◌-◌, ◌≤◌, true, false, if◌then◌else◌, List, [], ◌∷◌, ◌++◌, slice_set, sum_by, refl, ap, ◌∙◌, arith, append-nil, append_assoc}
use Rattle.std.proofs.lemmas.List.Sums.{sum_by-cons}
use Rattle.crp_plan.specs.Rows.{occurrences}
use Rattle.crp_plan.specs.Bay.{Position, IsTaken, IsShifted}
use Rattle.crp_plan.proofs.Lists.{times, sum_put, at_le_sum, times_push, times-cons, occurrences-cons}
use Rattle.crp_bounds.specs.Bounds.{holds_lower}
use Rattle.crp_bounds.proofs.Blocked.{none_lower, lower_from_held}
use Rattle.crp_prices.specs.Prices.{least_of, firsts_in, firsts}
use Rattle.crp_prices.proofs.Clear.{IsClear}
use Rattle.crp_prices.proofs.Playing.{least_is}
use Rattle.crp_prices.proofs.Jobs.{put, left, onto_still, above_next, rest_late}

-- what is due for a container on this list
abbrev pub due : (ℕ → ℕ → ℕ) → ℕ → ℕ → List ℕ → ℕ
due price ordered c under = if holds_lower ordered c under then price c (least_of ordered under) else 0

pub due_lower : (price : ℕ → ℕ → ℕ) (ordered c : ℕ) (under : List ℕ) → holds_lower ordered c under ≡ true → due price ordered c under ≡ price c (least_of ordered under)
due_lower price ordered c under e = rw e refl

pub due_none : (price : ℕ → ℕ → ℕ) (ordered c : ℕ) (under : List ℕ) → holds_lower ordered c under ≡ false → due price ordered c under ≡ 0
due_none price ordered c under e = rw e refl

-- one container more on top of a list
pub firsts_push : (price : ℕ → ℕ → ℕ) (ordered : ℕ) (under stack : List ℕ) (c : ℕ) →
    firsts_in price ordered under (stack ++ c ∷ []) ≡ firsts_in price ordered under stack + due price ordered c (under ++ stack)
firsts_push price ordered under [] c = omega (arith, ap (due price ordered c) (append-nil under))
firsts_push price ordered under (x ∷ stack) c =
    omega (arith, firsts_push price ordered (under ++ x ∷ []) stack c, ap (due price ordered c) (append_assoc under (x ∷ []) stack))

-- a take leaves what is due
pub firsts_taken : (price : ℕ → ℕ → ℕ) (s : Position) (row : ℕ) (t : Position) → IsClear s → (k : IsTaken s row t) → firsts price (left s row t k) ≡ firsts price s
firsts_taken price s row t sound k =
    let N : ℕ = s.ordered in let n : ℕ = s.next in
    let none : holds_lower N n k.rest ≡ false = none_lower N n k.rest (λ d a b.
    omega (arith, sound.gone d b, at_le_sum (times d) s.stacks (row - 1) (k.rest ++ n ∷ []) k.stack, times_push d k.rest n)) in
    omega (
      arith,
      sum_put (λ st. firsts_in price N [] st) s.stacks (row - 1) (k.rest ++ n ∷ []) k.rest k.stack,
      firsts_push price N [] k.rest n,
      due_none price N n k.rest none,
    )

-- a shift pays for the job that it is, and leaves due the one that its container has next, if it blocks again
pub firsts_shifted : (price : ℕ → ℕ → ℕ) (s : Position) (from to : ℕ) (t : Position) → IsClear s → (k : IsShifted s from to t) →
    firsts price (put s from to t k) + price k.moved s.next ≡ firsts price s + due price s.ordered k.moved k.onto
firsts_shifted price s from to t sound k =
    let N : ℕ = s.ordered in let c : ℕ = k.moved in
    let f : List ℕ → ℕ = λ st. firsts_in price N [] st in
    let held : holds_lower N c k.rest ≡ true = lower_from_held N s.next c k.rest k.unfinished (above_next s from to t sound k) k.buried in
    let least : least_of N k.rest ≡ s.next = least_is N s.next k.rest k.unfinished k.buried (λ x h. rest_late s (from - 1) x c k.rest sound k.stack h) in
    let own : due price N c k.rest ≡ price c s.next = due_lower price N c k.rest held ∙ ap (price c) least in
    omega (
      arith,
      sum_put f s.stacks (from - 1) (k.rest ++ c ∷ []) k.rest k.stack,
      firsts_push price N [] k.rest c,
      own,
      sum_put f (slice_set s.stacks (from - 1) k.rest) (to - 1) k.onto (k.onto ++ c ∷ []) (onto_still s from to t k),
      firsts_push price N [] k.onto c,
    )

-- where no ordered rank stands nothing is due
firsts_free : (price : ℕ → ℕ → ℕ) (ordered : ℕ) (under stack : List ℕ) → ((d : ℕ) → d ≤ ordered → times d under + times d stack ≡ 0) → firsts_in price ordered under stack ≡ 0
firsts_free price ordered under [] none = refl
firsts_free price ordered under (c ∷ stack) none =
    let low : holds_lower ordered c under ≡ false = none_lower ordered c under (λ d a b. omega (arith, none d a)) in
    omega (
      arith,
      due_none price ordered c under low,
      firsts_free price ordered (under ++ c ∷ []) stack (λ d a. omega (arith, none d a, times_push d under c, times-cons d c stack)),
    )

pub firsts_none : (price : ℕ → ℕ → ℕ) (ordered : ℕ) (stacks : List (List ℕ)) → ((d : ℕ) → d ≤ ordered → occurrences d stacks ≡ 0) →
    sum_by (λ stack. firsts_in price ordered [] stack) stacks ≡ 0
firsts_none price ordered [] none = refl
firsts_none price ordered (x ∷ xs) none =
    omega (
      arith,
      sum_by-cons (λ stack. firsts_in price ordered [] stack) x xs,
      firsts_free price ordered [] x (λ d a. omega (arith, none d a, occurrences-cons d x xs)),
      firsts_none price ordered xs (λ d a. omega (arith, none d a, occurrences-cons d x xs)),
    )
