-- What holds in each thinned position, kept by its steps.
use Rattle.std.proofs.Common.{◌≡◌, ◌≢◌, ℕ, zero, suc, ◌+◌, ◌-◌, ◌<◌, ◌≤◌, not, ◌==◌, nat_le, List, [], ◌∷◌, ◌++◌, length, Contains, Some, slice_get, slice_set, get_or, sym, ap, ◌∙◌, subst, ⊎_elim, arith}
use Rattle.std.proofs.lemmas.Option.{get_or_from_slice_get, slice_get-get_or}
use Rattle.std.proofs.lemmas.Bool.{cases_Bool, cases_eq, and_parts, and_cases, both_ways, leb-false, not-false, not-true}
use Rattle.crp_plan.specs.Rows.{occurrences, FitRows}
use Rattle.crp_plan.specs.Bay.{Position, IsSound, IsTaken}
use Rattle.crp_plan.proofs.Lists.{one_if, same_is_one}
use Rattle.crp_plan.proofs.Sound.{fit_put, fit_at, length_rest, occurrences_taken, occurrences_shifted}
use Rattle.crp_plan.proofs.Steps.{same_rows}
use Rattle.crp_bay.specs.Positions.{top, without_top, ends_in, source, stack_at, can_take, taken, can_shift, shifted, targets, counted}
use Rattle.crp_bay.proofs.Members.{from_filter}
use Rattle.crp_bay.proofs.Walked.{placed, held_splits, Allows, allows}
use Rattle.crp_thinned.specs.Thinned.{stands, is_missing, passed, settle_most, good_rows, is_well_placed, child_at, lifted, child_without}
use Rattle.crp_thinned.specs.Missing.{IsSoundlyThin}
use Rattle.crp_thinned.proofs.Settling.{top_taken, ends_there, stands_occurs, stands_not, step_taken, step_passed, step_stays}

-- a real position where nothing can be taken
pub thin_real : (s : Position) → IsSound s → ((row : ℕ) (t : Position) → IsTaken s row t → ⊥) → IsSoundlyThin s
thin_real s sound none = record {
  stacks_fit = sound.stacks_fit;
  once = sound.once;
  settled = record { gone = sound.gone; there = λ le. omega (arith, sound.waiting s.next (omega arith) le); no_take = none };
}

-- without the top of a stack
fit_without : (heights : List ℕ) (stacks : List (List ℕ)) (i : ℕ) (rest : List ℕ) (x : ℕ) → FitRows heights stacks → slice_get stacks i ≡ Some (rest ++ x ∷ []) → FitRows heights (slice_set stacks i rest)
fit_without heights stacks i rest x fit here = fit_put heights stacks i rest fit (λ h e. omega (arith, fit_at heights stacks i (rest ++ x ∷ []) h fit here e, length_rest rest x))

-- what settles holds it
settles : (most : ℕ) (s : Position) → FitRows s.heights s.stacks → ((x : ℕ) → occurrences x s.stacks ≤ 1) → ((x : ℕ) → x < s.next → occurrences x s.stacks ≡ 0) → s.ordered + 1 ≤ s.next + most → IsSoundlyThin (settle_most most s)
settles zero s fit once gone enough = record {
  stacks_fit = fit;
  once = once;
  settled = record { gone = gone; there = λ le. absurd (omega arith); no_take = λ row t k. let u = k.unfinished in absurd (omega arith) };
}
settles (suc most) s fit once gone enough =
    let n : ℕ = s.next in
    let A : List (List ℕ) = s.stacks in
    ⊎_elim
    (λ t.
    let parts = and_parts (nat_le n s.ordered) (ends_in n (stack_at s (source s))) t in
    let rest : List ℕ = without_top (stack_at s (source s)) in
    let here : slice_get A (source s) ≡ Some (rest ++ n ∷ []) = ends_there n A (source s) parts.1 in
    let r = settles most (taken s) (fit_without s.heights A (source s) rest n fit here)
    (λ x. omega (arith, occurrences_taken x n A (source s) rest here, once x))
    (λ x lt. ⊎_elim
    (λ q. omega (arith, occurrences_taken x n A (source s) rest here, once x, ap one_if (ap (λ y. y == x) q), same_is_one x))
    (λ ne. omega (arith, occurrences_taken x n A (source s) rest here, gone x (omega arith)))
    (cases_eq n x))
    (omega arith) in
    subst IsSoundlyThin (sym (step_taken most s t)) r)
    (λ f. ⊎_elim
    (λ t.
    let parts = and_parts (nat_le n s.ordered) (not (stands n A)) t in
    let none = stands_not n A (not-true (stands n A) parts.1) in
    let r = settles most (passed s) fit once (λ x lt. ⊎_elim (λ q. ap (λ y. occurrences y A) q ∙ none) (λ ne. gone x (omega arith)) (cases_eq x n)) (omega arith) in
    subst IsSoundlyThin (sym (step_passed most s f t)) r)
    (λ g.
    let there : n ≤ s.ordered → 1 ≤ occurrences n A = λ le. ⊎_elim
    (λ h. absurd (let b = leb-false n s.ordered h in omega arith))
    (λ h. stands_occurs n A (not-false (stands n A) h))
    (and_cases (nat_le n s.ordered) (not (stands n A)) g) in
    let no_take : (row : ℕ) (t : Position) → IsTaken s row t → ⊥ = λ row t k. both_ways (can_take s) f (top_taken s (row - 1) k.rest (once n) k.unfinished k.stack) in
    subst IsSoundlyThin (sym (step_stays most s f g)) (record { stacks_fit = fit; once = once; settled = record { gone = gone; there = there; no_take = no_take } }))
    (cases_Bool (is_missing s)))
    (cases_Bool (can_take s))

-- the stack of the next one
pub has_top : (s : Position) → IsSoundlyThin s → s.next ≤ s.ordered → slice_get s.stacks (source s) ≡ Some (without_top (stack_at s (source s)) ++ top (stack_at s (source s)) ∷ [])
has_top s thin le =
    let r = placed s.next s.stacks (thin.settled.there le) in
    let is_at : stack_at s (source s) ≡ r.0 = get_or_from_slice_get s.stacks (source s) r.0 [] r.1 in
    r.1 ∙ ap Some (held_splits s.next r.0 r.2) ∙ ap (λ l. Some (without_top l ++ top l ∷ [])) (sym is_at)

-- where the blocker is lifted out
pub thin_without : (s : Position) → IsSoundlyThin s → s.next ≤ s.ordered → IsSoundlyThin (child_without s)
thin_without s thin le =
    let here = has_top s thin le in
    let rest : List ℕ = without_top (stack_at s (source s)) in
    let x : ℕ = top (stack_at s (source s)) in
    let gone = thin.settled.gone in
    settles (s.ordered + 1 - s.next) (lifted s) (fit_without s.heights s.stacks (source s) rest x thin.stacks_fit here)
    (λ y. omega (arith, occurrences_taken y x s.stacks (source s) rest here, thin.once y))
    (λ y lt. omega (arith, occurrences_taken y x s.stacks (source s) rest here, gone y lt))
    (omega arith)

-- where it goes to a row
pub thin_at : (s : Position) (row : ℕ) → IsSoundlyThin s → Contains (good_rows s) row → IsSoundlyThin (child_at s row)
thin_at s row thin c =
    let legal = from_filter (is_well_placed s) (targets s) row c in
    let a : Allows s row = allows s row (from_filter (can_shift s) (counted 1 (length s.heights)) row legal.1).0 in
    let le = a.unfinished in
    let here = has_top s thin le in
    let rest : List ℕ = without_top (stack_at s (source s)) in
    let x : ℕ = top (stack_at s (source s)) in
    let onto : List ℕ = stack_at s (row - 1) in
    let ne : row - 1 ≢ source s = λ e. a.another (sym e) in
    let in_heights : row - 1 < length s.heights = within s.heights (row - 1) (let r = a.room in omega arith) in
    let there : slice_get s.stacks (row - 1) ≡ Some onto = slice_get-get_or s.stacks (row - 1) [] (omega (arith, same_rows s.heights s.stacks thin.stacks_fit)) in
    let gone = thin.settled.gone in
    settles (s.ordered + 1 - s.next) (shifted s row)
    (fit_put s.heights (slice_set s.stacks (source s) rest) (row - 1) (onto ++ x ∷ []) (fit_without s.heights s.stacks (source s) rest x thin.stacks_fit here)
    (λ h e. let r = a.room in omega (arith, get_or_from_slice_get s.heights (row - 1) h 0 e, length_rest onto x)))
    (λ y. omega (arith, occurrences_shifted y x s.stacks (source s) (row - 1) rest onto ne here there, thin.once y))
    (λ y lt. omega (arith, occurrences_shifted y x s.stacks (source s) (row - 1) rest onto ne here there, gone y lt))
    (omega arith)
  where
    within : (hs : List ℕ) (i : ℕ) → 0 < get_or hs i 0 → i < length hs
    within [] i h = absurd (omega arith)
    within (y ∷ hs) zero h = omega arith
    within (y ∷ hs) (suc i) h = let r = within hs i h in omega arith
