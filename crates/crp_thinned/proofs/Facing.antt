-- What a thinned position has on top of the stack of the next one, and in the rows where that is well placed.
use Rattle.std.proofs.Common.{◌≡◌, ◌≢◌, ℕ, suc, ◌-◌, ◌<◌, ◌≤◌, true, false, ◌==◌, List, [], ◌∷◌, ◌++◌, length, Contains, Some, slice_get, slice_set, get_or, refl, sym, ap, ◌∙◌, ⊎_elim, arith}
use Rattle.std.proofs.lemmas.Option.{same_Some, slice_get-get_or}
use Rattle.std.proofs.lemmas.Bool.{cases_lt, cases_eq, and_from, not-true, not_from_false, ne_eqb, eqb-true, le-leb, lt-ltb}
use Rattle.crp_plan.specs.Rows.{holds}
use Rattle.crp_plan.specs.Bay.{Position}
use Rattle.crp_plan.proofs.Lists.{times, one_if, at_le_sum, times_push, times_held, same_is_one}
use Rattle.crp_plan.proofs.Steps.{same_rows}
use Rattle.crp_bay.specs.Positions.{without_top, source, stack_at, can_shift, targets, counted}
use Rattle.crp_bay.proofs.Members.{in_filter, from_filter}
use Rattle.crp_bay.proofs.Walked.{placed, holds_push, within, Allows, allows, row_is_target}
use Rattle.crp_bounds.specs.Bounds.{holds_lower}
use Rattle.crp_thinned.specs.Thinned.{blocker, is_well_placed, good_rows}
use Rattle.crp_thinned.specs.Missing.{IsSoundlyThin}
use Rattle.crp_thinned.proofs.Keeping.{has_top}

-- the next one lies under the blocker
pub record Buried (s : Position) : Type 0 where
  pub here : slice_get s.stacks (source s) ≡ Some (without_top (stack_at s (source s)) ++ blocker s ∷ [])
  pub held : holds s.next (without_top (stack_at s (source s))) ≡ true
  pub above : s.next < blocker s

pub buried : (s : Position) → IsSoundlyThin s → s.next ≤ s.ordered → Buried s
buried s thin le =
    let here = has_top s thin le in
    let rest : List ℕ = without_top (stack_at s (source s)) in
    let x : ℕ = blocker s in
    let r = placed s.next s.stacks (thin.settled.there le) in
    let e : r.0 ≡ rest ++ x ∷ [] = same_Some r.0 (rest ++ x ∷ []) (sym r.1 ∙ here) in
    let first : suc (source s) - 1 ≡ source s = omega arith in
    let held : holds s.next rest ≡ true = ⊎_elim
    (λ h. h)
    (λ top. absurd (thin.settled.no_take (suc (source s)) (record s { next = suc s.next; stacks = slice_set s.stacks (suc (source s) - 1) rest }) (record {
      unfinished = le;
      row_counts = omega arith;
      rest = rest;
      stack = ap (slice_get s.stacks) first ∙ here ∙ ap (λ z. Some (rest ++ z ∷ [])) (eqb-true x s.next top);
      after = refl;
    })))
    (holds_push s.next rest x (ap (holds s.next) (sym e) ∙ r.2)) in
    record {
      here = here;
      held = held;
      above = ⊎_elim
          (λ lt. absurd (omega (arith, thin.settled.gone x lt, at_le_sum (times x) s.stacks (source s) (rest ++ x ∷ []) here, times_push x rest x, same_is_one x)))
          (λ ge. ⊎_elim
          (λ q. absurd (omega (arith, thin.once s.next, at_le_sum (times s.next) s.stacks (source s) (rest ++ x ∷ []) here, times_push s.next rest x, ap one_if (ap (λ z. z == s.next) q), same_is_one s.next, times_held s.next rest held)))
          (λ ne. omega arith)
          (cases_eq x s.next))
          (cases_lt x s.next);
    }

-- a row where the blocker is well placed
pub record Good (s : Position) (row : ℕ) : Type 0 where
  pub unfinished : s.next ≤ s.ordered
  pub counts : 1 ≤ row
  pub another : source s ≢ row - 1
  pub room : length (stack_at s (row - 1)) < get_or s.heights (row - 1) 0
  pub limit : slice_get s.heights (row - 1) ≡ Some (get_or s.heights (row - 1) 0)
  pub onto : slice_get s.stacks (row - 1) ≡ Some (stack_at s (row - 1))
  pub free : holds_lower s.ordered (blocker s) (stack_at s (row - 1)) ≡ false

pub good : (s : Position) (row : ℕ) → IsSoundlyThin s → Contains (good_rows s) row → Good s row
good s row thin c =
    let legal = from_filter (is_well_placed s) (targets s) row c in
    let a : Allows s row = allows s row (from_filter (can_shift s) (counted 1 (length s.heights)) row legal.1).0 in
    let in_heights : row - 1 < length s.heights = within s.heights (row - 1) (let r = a.room in omega arith) in
    record {
      unfinished = a.unfinished;
      counts = a.counts;
      another = a.another;
      room = a.room;
      limit = slice_get-get_or s.heights (row - 1) 0 in_heights;
      onto = slice_get-get_or s.stacks (row - 1) [] (omega (arith, same_rows s.heights s.stacks thin.stacks_fit));
      free = not-true (holds_lower s.ordered (blocker s) (stack_at s (row - 1))) legal.0;
    }

pub is_good : (s : Position) (row : ℕ) → s.next ≤ s.ordered → 1 ≤ row → source s ≢ row - 1 → length (stack_at s (row - 1)) < get_or s.heights (row - 1) 0 → holds_lower s.ordered (blocker s) (stack_at s (row - 1)) ≡ false →
    Contains (good_rows s) row
is_good s row le counts another room free =
    let can : can_shift s row ≡ true =
    and_from _ _ (le-leb s.next s.ordered le)
    (and_from _ _ (le-leb 1 row counts)
    (and_from _ _ (not_from_false (source s == row - 1) (ne_eqb (source s) (row - 1) another)) (lt-ltb _ _ room))) in
    in_filter (is_well_placed s) (targets s) row (row_is_target s row can) (not_from_false (holds_lower s.ordered (blocker s) (stack_at s (row - 1))) free)
