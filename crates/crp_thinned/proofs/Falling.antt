-- Both bounds fall slowly over thinned positions.
use Rattle.std.proofs.Common.{◌≡◌, ℕ, zero, suc, ◌+◌, ◌-◌, ◌<◌, ◌≤◌, Bool, true, false, not, ◌==◌, ◌||◌, nat_le, List, [], ◌∷◌, ◌++◌, length, map, Contains, Some, slice_get, slice_set, get_or, count_by, refl, sym, ap, ◌∙◌, subst, ⊎_elim, arith, append-nil}
use Rattle.std.proofs.lemmas.Bool.{cases_Bool, cases_eq, or_cases, and_parts, leb-true, eq-eqb, not-true, both_ways, false_from_ne_true}
use Rattle.crp_plan.specs.Rows.{holds, occurrences, above, below}
use Rattle.crp_plan.specs.Bay.{Position}
use Rattle.crp_plan.proofs.Lists.{times, one_if, sum_put, at_le_sum, get_put_other, times_push, times_held, same_is_one}
use Rattle.crp_plan.proofs.Sound.{occurrences_taken, occurrences_shifted}
use Rattle.crp_plan.proofs.Buried.{above_held, above_not_held, below_held, below_not_held, below_absent}
use Rattle.crp_bay.specs.Positions.{without_top, ends_in, source, stack_at, can_take, taken, shifted}
use Rattle.crp_bounds.specs.Bounds.{holds_lower, blocked_in, blocking, has_no_place, stuck_above, stuck_from, look_ahead}
use Rattle.crp_bounds.proofs.Blocked.{blocking_none, blocked_push, lower_from_held, none_lower, one_if-le}
use Rattle.crp_bounds.proofs.Stuck.{Extends, extends_self, counted_grows, counted_absent, count-append, no_place_kept, no_place_at, stuck_grows, extends_put, cut_put, cut_absent}
use Rattle.crp_thinned.specs.Thinned.{stands, is_missing, passed, settle_most, blocker, good_rows, child_at, lifted, child_without}
use Rattle.crp_thinned.specs.Missing.{IsSoundlyThin, FallsSlowly}
use Rattle.crp_thinned.proofs.Settling.{ends_there, stands_not, step_taken, step_passed, step_stays}
use Rattle.crp_thinned.proofs.Stepping.{on}
use Rattle.crp_thinned.proofs.Facing.{buried, Good, good}

-- the first step of the look-ahead
one_step : (ordered : ℕ) (heights : List ℕ) (stacks : List (List ℕ)) (next : ℕ) → next ≤ ordered →
    stuck_from ordered heights (suc ordered - next) stacks next ≡ stuck_above ordered heights stacks next + stuck_from ordered heights (ordered - next) (map (below next) stacks) (suc next)
one_step ordered heights stacks next h = let e : suc ordered - next ≡ suc (ordered - next) = omega arith in ap (λ m. stuck_from ordered heights m stacks next) e

-- both bounds are the same in two positions
pub record SameBounds (s t : Position) : Type 0 where
  pub blocks : blocking t ≡ blocking s
  pub ahead : look_ahead t ≡ look_ahead s

-- a missing one that is passed over counts nothing
pass_keeps : (s : Position) → s.next ≤ s.ordered → occurrences s.next s.stacks ≡ 0 → SameBounds s (passed s)
pass_keeps s le none =
    let N : ℕ = s.ordered in let n : ℕ = s.next in let A : List (List ℕ) = s.stacks in
    let less : suc N - suc n ≡ N - n = omega arith in
    record {
      blocks = refl;
      ahead = omega (
        arith,
        one_step N s.heights A n le,
        counted_absent (has_no_place N n s.heights A) n A none,
        ap (λ l. stuck_from N s.heights (N - n) l (suc n)) (cut_absent n A none),
        ap (λ m. stuck_from N s.heights m A (suc n)) less,
      );
    }

-- nor does one that leaves
take_keeps : (s : Position) (i : ℕ) (rest : List ℕ) → s.next ≤ s.ordered → occurrences s.next s.stacks ≤ 1 → ((y : ℕ) → y < s.next → occurrences y s.stacks ≡ 0) → slice_get s.stacks i ≡ Some (rest ++ s.next ∷ []) →
    SameBounds s (on s (suc s.next) (slice_set s.stacks i rest))
take_keeps s i rest le once gone here =
    let N : ℕ = s.ordered in let n : ℕ = s.next in let A : List (List ℕ) = s.stacks in let B : List (List ℕ) = slice_set s.stacks i rest in
    let none : times n rest ≡ 0 = omega (arith, once, at_le_sum (times n) A i (rest ++ n ∷ []) here, times_push n rest n, same_is_one n) in
    let left : occurrences n B ≡ 0 = omega (arith, occurrences_taken n n A i rest here, same_is_one n, once) in
    let free : holds n rest ≡ false = ⊎_elim (λ e. absurd (omega (arith, times_held n rest e))) (λ e. e) (cases_Bool (holds n rest)) in
    let p : ℕ → Bool = has_no_place N n s.heights A in
    let top_above : above n (n ∷ []) ≡ [] = rw (eq-eqb n n refl) refl in
    let top_below : below n (n ∷ []) ≡ [] = rw (eq-eqb n n refl) refl in
    let empty : above n (rest ++ n ∷ []) ≡ [] = above_not_held n rest (n ∷ []) free ∙ top_above in
    let counts : stuck_above N s.heights A n ≡ 0 =
    omega (arith, sum_put (λ st. count_by p (above n st)) A i (rest ++ n ∷ []) rest here, ap (count_by p) empty, counted_absent p n B left) in
    let under : below n rest ≡ below n (rest ++ n ∷ []) =
    below_absent n rest none ∙ sym (below_not_held n rest (n ∷ []) free ∙ ap (λ l. rest ++ l) top_below ∙ append-nil rest) in
    let cut : map (below n) A ≡ B = sym (cut_put n A i (rest ++ n ∷ []) rest here under) ∙ cut_absent n B left in
    let less : suc N - suc n ≡ N - n = omega arith in
    let lowest : holds_lower N n rest ≡ false = none_lower N n rest (λ d a b. omega (arith, gone d b, at_le_sum (times d) A i (rest ++ n ∷ []) here, times_push d rest n)) in
    let same : blocking (on s (suc n) B) ≡ blocking s = omega (arith, sum_put (λ st. blocked_in N [] st) A i (rest ++ n ∷ []) rest here, blocked_push N [] rest n, ap one_if lowest) in
    record {
      blocks = same;
      ahead = omega (arith, same, one_step N s.heights A n le, counts, ap (λ l. stuck_from N s.heights (N - n) l (suc n)) cut, ap (λ m. stuck_from N s.heights m B (suc n)) less);
    }

-- so both bounds stay when a position settles
pub settle_keeps : (most : ℕ) (s : Position) → ((y : ℕ) → occurrences y s.stacks ≤ 1) → ((y : ℕ) → y < s.next → occurrences y s.stacks ≡ 0) → SameBounds s (settle_most most s)
settle_keeps zero s once gone = record { blocks = refl; ahead = refl }
settle_keeps (suc most) s once gone =
    let n : ℕ = s.next in let A : List (List ℕ) = s.stacks in
    let P : Position → Type 0 = λ w. SameBounds s w in
    ⊎_elim
    (λ t.
    let parts = and_parts (nat_le n s.ordered) (ends_in n (stack_at s (source s))) t in
    let rest : List ℕ = without_top (stack_at s (source s)) in
    let here : slice_get A (source s) ≡ Some (rest ++ n ∷ []) = ends_there n A (source s) parts.1 in
    let k = take_keeps s (source s) rest (leb-true n s.ordered parts.0) (once n) gone here in
    let r = settle_keeps most (taken s)
    (λ y. omega (arith, occurrences_taken y n A (source s) rest here, once y))
    (λ y lt. ⊎_elim
    (λ q. omega (arith, occurrences_taken y n A (source s) rest here, once y, ap one_if (ap (λ z. z == y) q), same_is_one y))
    (λ ne. omega (arith, occurrences_taken y n A (source s) rest here, gone y (omega arith)))
    (cases_eq n y)) in
    subst P (sym (step_taken most s t)) (record { blocks = r.blocks ∙ k.blocks; ahead = r.ahead ∙ k.ahead }))
    (λ f. ⊎_elim
    (λ t.
    let parts = and_parts (nat_le n s.ordered) (not (stands n A)) t in
    let none = stands_not n A (not-true (stands n A) parts.1) in
    let k = pass_keeps s (leb-true n s.ordered parts.0) none in
    let r = settle_keeps most (passed s) once (λ y lt. ⊎_elim (λ q. ap (λ z. occurrences z A) q ∙ none) (λ ne. gone y (omega arith)) (cases_eq y n)) in
    subst P (sym (step_passed most s f t)) (record { blocks = r.blocks ∙ k.blocks; ahead = r.ahead ∙ k.ahead }))
    (λ g. subst P (sym (step_stays most s f g)) (record { blocks = refl; ahead = refl }))
    (cases_Bool (is_missing s)))
    (cases_Bool (can_take s))

-- without the blocker c, c alone may be lost from what counts twice
pub lift_counts : (s : Position) → IsSoundlyThin s → (le : s.next ≤ s.ordered) →
    stuck_from s.ordered s.heights (suc s.ordered - s.next) s.stacks s.next ≤ stuck_from s.ordered s.heights (suc s.ordered - s.next) (lifted s).stacks s.next + one_if (has_no_place s.ordered s.next s.heights s.stacks (blocker s))
lift_counts s thin le =
    let N : ℕ = s.ordered in let n : ℕ = s.next in let c : ℕ = blocker s in let hs : List ℕ = s.heights in
    let A : List (List ℕ) = s.stacks in
    let b = buried s thin le in
    let rest : List ℕ = without_top (stack_at s (source s)) in
    let M : List (List ℕ) = slice_set A (source s) rest in
    let p : ℕ → Bool = has_no_place N n hs A in
    let q : ℕ → Bool = has_no_place N n hs M in
    let cut : map (below n) M ≡ map (below n) A = cut_put n A (source s) (rest ++ c ∷ []) rest b.here (sym (below_held n rest (c ∷ []) b.held)) in
    omega (
      arith,
      one_step N hs A n le,
      one_step N hs M n le,
      sum_put (λ st. count_by p (above n st)) A (source s) (rest ++ c ∷ []) rest b.here,
      ap (count_by p) (above_held n rest (c ∷ []) b.held),
      count-append p (above n rest) (c ∷ []),
      counted_grows p q n (λ x e. no_place_kept N n hs A (source s) rest x b.held e) M M (extends_self M),
      ap (λ l. stuck_from N hs (N - n) l (suc n)) cut,
    )

-- and one container less blocks
pub lift_blocks : (s : Position) → IsSoundlyThin s → s.next ≤ s.ordered → blocking (lifted s) + 1 ≡ blocking s
lift_blocks s thin le =
    let b = buried s thin le in
    let rest : List ℕ = without_top (stack_at s (source s)) in
    let held : holds_lower s.ordered (blocker s) rest ≡ true = lower_from_held s.ordered s.next (blocker s) rest le b.above b.held in
    omega (arith, sum_put (λ st. blocked_in s.ordered [] st) s.stacks (source s) (rest ++ blocker s ∷ []) rest b.here, blocked_push s.ordered [] rest (blocker s), ap one_if held)

lift_falls : (s : Position) → IsSoundlyThin s → s.next ≤ s.ordered → look_ahead s ≤ 2 + look_ahead (lifted s)
lift_falls s thin le = omega (arith, lift_counts s thin le, lift_blocks s thin le, one_if-le (has_no_place s.ordered s.next s.heights s.stacks (blocker s)))

-- where it is well placed, it had a place
had_place : (s : Position) (row : ℕ) → IsSoundlyThin s → Contains (good_rows s) row → has_no_place s.ordered s.next s.heights s.stacks (blocker s) ≡ false
had_place s row thin c =
    let g = good s row thin c in
    let N : ℕ = s.ordered in let n : ℕ = s.next in let x : ℕ = blocker s in
    let onto : List ℕ = stack_at s (row - 1) in let height : ℕ = get_or s.heights (row - 1) 0 in
    false_from_ne_true (has_no_place N n s.heights s.stacks x) (λ e. ⊎_elim
    (λ full. let short : length onto < height = g.room in absurd (omega (arith, leb-true height (length onto) full)))
    (λ other. ⊎_elim
    (λ held. both_ways (holds_lower N x onto) g.free (lower_from_held N n x onto g.unfinished (buried s thin g.unfinished).above held))
    (λ low. both_ways (holds_lower N x onto) g.free low)
    (or_cases (holds n onto) (holds_lower N x onto) other))
    (or_cases (nat_le height (length onto)) (holds n onto || holds_lower N x onto) (no_place_at N n s.heights s.stacks (row - 1) height onto x g.limit g.onto e)))

-- the other row as it was
pub onto_still : (s : Position) (row : ℕ) → (g : Good s row) → slice_get (lifted s).stacks (row - 1) ≡ Some (stack_at s (row - 1))
onto_still s row g = get_put_other s.stacks (source s) (row - 1) (without_top (stack_at s (source s))) (λ e. g.another (sym e)) ∙ g.onto

pub shift_blocks : (s : Position) (row : ℕ) → IsSoundlyThin s → Contains (good_rows s) row → blocking (shifted s row) + 1 ≡ blocking s
shift_blocks s row thin c =
    let g = good s row thin c in
    let onto : List ℕ = stack_at s (row - 1) in
    omega (
      arith,
      lift_blocks s thin g.unfinished,
      sum_put (λ st. blocked_in s.ordered [] st) (lifted s).stacks (row - 1) onto (onto ++ blocker s ∷ []) (onto_still s row g),
      blocked_push s.ordered [] onto (blocker s),
      ap one_if g.free,
    )

shift_falls : (s : Position) (row : ℕ) → IsSoundlyThin s → Contains (good_rows s) row → look_ahead s ≤ 1 + look_ahead (shifted s row)
shift_falls s row thin c =
    let g = good s row thin c in
    let M : List (List ℕ) = (lifted s).stacks in
    let grown : Extends M (shifted s row).stacks = extends_put M (row - 1) (stack_at s (row - 1)) (blocker s ∷ []) (onto_still s row g) in
    omega (
      arith,
      lift_counts s thin g.unfinished,
      ap one_if (had_place s row thin c),
      stuck_grows s.ordered s.heights (suc s.ordered - s.next) M (shifted s row).stacks s.next grown,
      shift_blocks s row thin c,
    )

-- how often a rank stands there then
pub once_lifted : (s : Position) → IsSoundlyThin s → s.next ≤ s.ordered → (y : ℕ) → occurrences y (lifted s).stacks ≤ occurrences y s.stacks
once_lifted s thin le y = omega (arith, occurrences_taken y (blocker s) s.stacks (source s) (without_top (stack_at s (source s))) (buried s thin le).here)

pub once_shifted : (s : Position) (row : ℕ) → IsSoundlyThin s → Contains (good_rows s) row → (y : ℕ) → occurrences y (shifted s row).stacks ≡ occurrences y s.stacks
once_shifted s row thin c y =
    let g = good s row thin c in
    occurrences_shifted y (blocker s) s.stacks (source s) (row - 1) (without_top (stack_at s (source s))) (stack_at s (row - 1)) (λ e. g.another (sym e)) (buried s thin g.unfinished).here g.onto

-- both over the steps
pub over_row : (s : Position) (row : ℕ) → IsSoundlyThin s → Contains (good_rows s) row → SameBounds (shifted s row) (child_at s row)
over_row s row thin c =
    let o = once_shifted s row thin c in
    settle_keeps (s.ordered + 1 - s.next) (shifted s row) (λ y. omega (arith, o y, thin.once y)) (λ y lt. omega (arith, o y, thin.settled.gone y lt))

pub over_lift : (s : Position) → IsSoundlyThin s → s.next ≤ s.ordered → SameBounds (lifted s) (child_without s)
over_lift s thin le =
    let o = once_lifted s thin le in
    settle_keeps (s.ordered + 1 - s.next) (lifted s) (λ y. omega (arith, o y, thin.once y)) (λ y lt. omega (arith, o y, thin.settled.gone y lt))

pub none_at_end : (s : Position) → IsSoundlyThin s → s.ordered < s.next → blocking s ≡ 0
none_at_end s thin end = blocking_none s.ordered s.stacks (λ d le. thin.settled.gone d (omega arith))

pub blocking_slow : FallsSlowly blocking
blocking_slow = record {
  row = λ s row thin c. let k = over_row s row thin c in omega (arith, shift_blocks s row thin c, k.blocks);
  without = λ s thin le. let k = over_lift s thin le in omega (arith, lift_blocks s thin le, k.blocks);
  end = none_at_end;
}

pub ahead_slow : FallsSlowly look_ahead
ahead_slow = record {
  row = λ s row thin c. let k = over_row s row thin c in omega (arith, shift_falls s row thin c, k.ahead);
  without = λ s thin le. let k = over_lift s thin le in omega (arith, lift_falls s thin le, k.ahead);
  end = λ s thin end. let none : suc s.ordered - s.next ≡ 0 = omega arith in
      omega (arith, none_at_end s thin end, ap (λ m. stuck_from s.ordered s.heights m s.stacks s.next) none);
}
