-- The blocking bound under moves.
use Rattle.std.proofs.Common.{◌≡◌, ◌≢◌, ℕ, ◌+◌, ◌-◌, ◌<◌, ◌≤◌, Bool, true, false, ◌==◌, ◌&&◌, nat_le, nat_lt, List, [], ◌∷◌, ◌++◌, Some, slice_get, slice_set, sum_by, refl, ap, ◌∙◌, ⊎_elim, arith, append-nil, append_assoc}
use Rattle.std.proofs.lemmas.Bool.{cases_lt, or_cases, or_left, or_right, and_parts, and_from, eqb-true, le-leb, lt-ltb, leb-true, ltb-true, false_from_ne_true}
use Rattle.std.proofs.lemmas.List.Sums.{sum_by-cons}
use Rattle.crp_plan.specs.Rows.{holds, occurrences}
use Rattle.crp_plan.specs.Bay.{Position, IsSound, IsTaken, IsShifted}
use Rattle.crp_bounds.specs.Bounds.{holds_lower, blocked_in, blocking}
use Rattle.crp_plan.proofs.Lists.{times, one_if, sum_put, at_le_sum, get_put_other, times_push, times-cons, same_is_one, occurrences-cons}
use Rattle.crp_plan.proofs.Sound.{apart}

-- one container more on top of a list
pub blocked_push : (ordered : ℕ) (under stack : List ℕ) (c : ℕ) →
    blocked_in ordered under (stack ++ c ∷ []) ≡ blocked_in ordered under stack + one_if (holds_lower ordered c (under ++ stack))
blocked_push ordered under [] c =
    let e : one_if (holds_lower ordered c (under ++ [])) ≡ one_if (holds_lower ordered c under) = ap (λ l. one_if (holds_lower ordered c l)) (append-nil under) in
    omega arith
blocked_push ordered under (x ∷ stack) c =
    let e : one_if (holds_lower ordered c ((under ++ x ∷ []) ++ stack)) ≡ one_if (holds_lower ordered c (under ++ x ∷ stack)) =
    ap (λ l. one_if (holds_lower ordered c l)) (append_assoc under (x ∷ []) stack) in
    omega (arith, blocked_push ordered (under ++ x ∷ []) stack c)

-- a held rank, in order and lower than c, is found by the test
pub lower_from_held : (ordered n c : ℕ) (stack : List ℕ) → n ≤ ordered → n < c → holds n stack ≡ true → holds_lower ordered c stack ≡ true
lower_from_held ordered n c [] hn hc h = cc
lower_from_held ordered n c (y ∷ stack) hn hc h =
    ⊎_elim
    (λ e. let same : y ≡ n = eqb-true y n e in
    or_left (nat_le y ordered && nat_lt y c) (holds_lower ordered c stack)
    (and_from (nat_le y ordered) (nat_lt y c) (le-leb y ordered (omega arith)) (lt-ltb y c (omega arith))))
    (λ e. or_right (nat_le y ordered && nat_lt y c) (holds_lower ordered c stack) (lower_from_held ordered n c stack hn hc e))
    (or_cases (y == n) (holds n stack) h)

-- where no ordered rank below c stands, none is held
pub none_lower : (ordered c : ℕ) (stack : List ℕ) → ((d : ℕ) → d ≤ ordered → d < c → times d stack ≡ 0) → holds_lower ordered c stack ≡ false
none_lower ordered c [] none = refl
none_lower ordered c (y ∷ stack) none =
    let away : (d : ℕ) → d ≤ ordered → d < c → times d stack ≡ 0 = λ d a b. omega (arith, none d a b, times-cons d y stack) in
    let tail = none_lower ordered c stack away in
    let front : nat_le y ordered && nat_lt y c ≡ false = false_from_ne_true (nat_le y ordered && nat_lt y c) (λ e.
    let both = and_parts (nat_le y ordered) (nat_lt y c) e in
    omega (arith, none y (leb-true y ordered both.0) (ltb-true y c both.1), times-cons y y stack, same_is_one y)) in
    rw (front, tail) refl

-- without ordered containers nothing is blocked in a list
pub blocked_none : (ordered : ℕ) (under stack : List ℕ) → ((d : ℕ) → d ≤ ordered → (times d under ≡ 0) × (times d stack ≡ 0)) → blocked_in ordered under stack ≡ 0
blocked_none ordered under [] none = refl
blocked_none ordered under (x ∷ stack) none =
    let e : holds_lower ordered x under ≡ false = none_lower ordered x under (λ d a b. (none d a).0) in
    let tail : blocked_in ordered (under ++ x ∷ []) stack ≡ 0 = blocked_none ordered (under ++ x ∷ []) stack (λ d a.
    let p = none d a in
    (omega (arith, p.0, p.1, times_push d under x, times-cons d x stack), omega (arith, p.1, times-cons d x stack))) in
    omega (arith, ap one_if e)

-- without ordered containers nothing is blocked
pub blocking_none : (ordered : ℕ) (stacks : List (List ℕ)) → ((d : ℕ) → d ≤ ordered → occurrences d stacks ≡ 0) → sum_by (λ stack. blocked_in ordered [] stack) stacks ≡ 0
blocking_none ordered [] none = refl
blocking_none ordered (stack ∷ stacks) none =
    let one : blocked_in ordered [] stack ≡ 0 = blocked_none ordered [] stack (λ d a. (refl, omega (arith, none d a, occurrences-cons d stack stacks))) in
    let rest : sum_by (λ st. blocked_in ordered [] st) stacks ≡ 0 = blocking_none ordered stacks (λ d a. omega (arith, none d a, occurrences-cons d stack stacks)) in
    omega (arith, sum_by-cons (λ st. blocked_in ordered [] st) stack stacks)

-- a container that stands above the next one has a greater rank
pub above_next : (s : Position) (from to : ℕ) (t : Position) → IsSound s → (k : IsShifted s from to t) → s.next < k.moved
above_next s from to t sound k =
    let c : ℕ = k.moved in
    let there : 1 ≤ occurrences c s.stacks =
    omega (arith, at_le_sum (times c) s.stacks (from - 1) (k.rest ++ c ∷ []) k.stack, times_push c k.rest c, same_is_one c) in
    let ne : c ≢ s.next = k.not_top in
    ⊎_elim (λ lt. absurd (omega (arith, sound.gone c lt))) (λ le. omega arith) (cases_lt c s.next)

-- a take leaves the blocking bound
pub blocking_taken : (s : Position) (row : ℕ) (t : Position) → IsSound s → IsTaken s row t → blocking t ≡ blocking s
blocking_taken s row t sound k =
    let N : ℕ = s.ordered in let n : ℕ = s.next in
    let none : holds_lower N n k.rest ≡ false = none_lower N n k.rest (λ d a b.
    omega (arith, sound.gone d b, at_le_sum (times d) s.stacks (row - 1) (k.rest ++ n ∷ []) k.stack, times_push d k.rest n)) in
    let e : sum_by (λ st. blocked_in N [] st) (slice_set s.stacks (row - 1) k.rest) ≡ sum_by (λ st. blocked_in N [] st) s.stacks =
    omega (arith, sum_put (λ st. blocked_in N [] st) s.stacks (row - 1) (k.rest ++ n ∷ []) k.rest k.stack, blocked_push N [] k.rest n, ap one_if none) in
    ap blocking k.after ∙ e

-- a shift takes one off the blocking bound, unless the container blocks again
pub blocking_shifted : (s : Position) (from to : ℕ) (t : Position) → IsSound s → (k : IsShifted s from to t) →
    blocking t + 1 ≡ blocking s + one_if (holds_lower s.ordered k.moved k.onto)
blocking_shifted s from to t sound k =
    let N : ℕ = s.ordered in let c : ℕ = k.moved in
    let f : List ℕ → ℕ = λ st. blocked_in N [] st in
    let held : holds_lower N c k.rest ≡ true = lower_from_held N s.next c k.rest k.unfinished (above_next s from to t sound k) k.buried in
    let mid : List (List ℕ) = slice_set s.stacks (from - 1) k.rest in
    let target : slice_get mid (to - 1) ≡ Some k.onto = get_put_other s.stacks (from - 1) (to - 1) k.rest (apart from to k.from_counts k.to_counts k.another) ∙ k.target in
    let e : sum_by f (slice_set mid (to - 1) (k.onto ++ c ∷ [])) + 1 ≡ sum_by f s.stacks + one_if (holds_lower N c k.onto) =
    omega (
      arith,
      sum_put f s.stacks (from - 1) (k.rest ++ c ∷ []) k.rest k.stack,
      blocked_push N [] k.rest c,
      ap one_if held,
      sum_put f mid (to - 1) k.onto (k.onto ++ c ∷ []) target,
      blocked_push N [] k.onto c,
    ) in
    ap (λ x. x + 1) (ap blocking k.after) ∙ e

-- a test counts one at most
pub one_if-le : (b : Bool) → one_if b ≤ 1
one_if-le true = omega arith
one_if-le false = omega arith
