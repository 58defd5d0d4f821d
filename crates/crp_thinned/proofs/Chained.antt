-- Families of chains over thinned positions: blocking and gain fall slowly.
use Rattle.std.proofs.Common.{◌≡◌, ℕ, zero, suc, ◌+◌, ◌-◌, ◌<◌, ◌≤◌, not, ◌==◌, nat_le, List, [], ◌∷◌, ◌++◌, map, Contains, Some, slice_get, slice_set, get_or, refl, sym, ap, ◌∙◌, subst, ⊎_elim, arith}
use Rattle.std.proofs.lemmas.Bool.{cases_Bool, cases_eq, and_parts, leb-true, not-true}
use Rattle.crp_plan.specs.Rows.{occurrences}
use Rattle.crp_plan.specs.Bay.{Position, IsTaken, IsShifted}
use Rattle.crp_plan.proofs.Lists.{one_if, same_is_one}
use Rattle.crp_plan.proofs.Sound.{occurrences_taken}
use Rattle.crp_bay.specs.Positions.{without_top, ends_in, source, stack_at, can_take, taken, shifted}
use Rattle.crp_bounds.specs.Bounds.{blocking}
use Rattle.crp_chains.specs.declared.blocker.Blocker.{Blocker}
use Rattle.crp_chains.specs.Chains.{IsFamily, gain, without}
use Rattle.crp_chains.proofs.Clear.{IsClear}
use Rattle.crp_chains.proofs.Kept.{put, out}
use Rattle.crp_chains.proofs.Gaining.{FamilyStep, family_shifted, family_well, family_lifted, family_taken, family_passed, gain_past}
use Rattle.crp_thinned.specs.Thinned.{stands, is_missing, passed, settle_most, settled_over, blocker, good_rows, child_at, lifted, child_without}
use Rattle.crp_thinned.specs.Missing.{IsSoundlyThin}
use Rattle.crp_thinned.proofs.Settling.{ends_there, stands_not, step_taken, step_passed, step_stays}
use Rattle.crp_thinned.proofs.Facing.{buried, good}
use Rattle.crp_thinned.proofs.Falling.{settle_keeps, shift_blocks, lift_blocks, once_lifted, once_shifted, over_row, over_lift, none_at_end}
use Rattle.crp_thinned.proofs.Playing.{ClaimsFall}

pub clear_thin : (s : Position) → IsSoundlyThin s → IsClear s
clear_thin s thin = record { once = thin.once; gone = thin.settled.gone }

-- the same family gains as much
abbrev pub GainsIn : ℕ → List (List Blocker) → Position → Type 0
GainsIn n family t = IsFamily t family × (n ≤ gain t family)

-- when a position settles
settle_gains : (most : ℕ) (s : Position) (family : List (List Blocker)) → IsClear s → IsFamily s family → GainsIn (gain s family) family (settle_most most s)
settle_gains zero s family clear f = (f, omega arith)
settle_gains (suc most) s family clear f =
    let n : ℕ = s.next in let A : List (List ℕ) = s.stacks in
    let P : Position → Type 0 = GainsIn (gain s family) family in
    ⊎_elim
    (λ t.
    let parts = and_parts (nat_le n s.ordered) (ends_in n (stack_at s (source s))) t in
    let rest : List ℕ = without_top (stack_at s (source s)) in
    let here : slice_get A (source s) ≡ Some (rest ++ n ∷ []) = ends_there n A (source s) parts.1 in
    let first : suc (source s) - 1 ≡ source s = omega arith in
    let k : IsTaken s (suc (source s)) (taken s) = record {
      unfinished = leb-true n s.ordered parts.0;
      row_counts = omega arith;
      rest = rest;
      stack = ap (slice_get A) first ∙ here;
      after = ap (λ i. record { heights = s.heights; ordered = s.ordered; next = suc n; stacks = slice_set A i rest }) (sym first);
    } in
    let one : GainsIn (gain s family) family (taken s) = subst P (sym k.after) (family_taken s family (suc (source s)) (taken s) clear f k) in
    let r = settle_gains most (taken s) family (record {
      once = λ y. omega (arith, occurrences_taken y n A (source s) rest here, clear.once y);
      gone = λ y lt. ⊎_elim
          (λ q. omega (arith, occurrences_taken y n A (source s) rest here, clear.once y, ap one_if (ap (λ z. z == y) q), same_is_one y))
          (λ ne. omega (arith, occurrences_taken y n A (source s) rest here, clear.gone y (omega arith)))
          (cases_eq n y);
    }) one.0 in
    subst P (sym (step_taken most s t)) (r.0, omega (arith, one.1, r.1)))
    (λ g. ⊎_elim
    (λ t.
    let parts = and_parts (nat_le n s.ordered) (not (stands n A)) t in
    let none = stands_not n A (not-true (stands n A) parts.1) in
    let r = settle_gains most (passed s) family (record {
      once = clear.once;
      gone = λ y lt. ⊎_elim (λ q. ap (λ z. occurrences z A) q ∙ none) (λ ne. clear.gone y (omega arith)) (cases_eq y n);
    }) (family_passed s family (suc n) f) in
    subst P (sym (step_passed most s g t)) r)
    (λ h. subst P (sym (step_stays most s g h)) (f, omega arith))
    (cases_Bool (is_missing s)))
    (cases_Bool (can_take s))

pub settled_claims : (s : Position) (family : List (List Blocker)) → IsClear s → IsFamily s family →
    IsFamily (settled_over s) family × (blocking s + gain s family ≤ blocking (settled_over s) + gain (settled_over s) family)
settled_claims s family clear f =
    let r = settle_gains (s.ordered + 1 - s.next) s family clear f in
    let same = settle_keeps (s.ordered + 1 - s.next) s clear.once clear.gone in
    (r.0, omega (arith, r.1, same.blocks))

-- the blocker goes to a row
abbrev pub shift_is : (s : Position) (row : ℕ) → IsSoundlyThin s → Contains (good_rows s) row → IsShifted s (suc (source s)) row (shifted s row)
shift_is s row thin c =
    let g = good s row thin c in
    let b = buried s thin g.unfinished in
    let rest : List ℕ = without_top (stack_at s (source s)) in
    let onto : List ℕ = stack_at s (row - 1) in
    let first : suc (source s) - 1 ≡ source s = omega arith in
    record {
      unfinished = g.unfinished;
      from_counts = omega arith;
      to_counts = g.counts;
      another = λ e. g.another (omega (arith, e));
      rest = rest;
      moved = blocker s;
      stack = ap (slice_get s.stacks) first ∙ b.here;
      buried = b.held;
      not_top = λ e. (let lt = b.above in omega arith);
      onto = onto;
      target = g.onto;
      height = get_or s.heights (row - 1) 0;
      limit = g.limit;
      room = g.room;
      after = ap (λ i. record { heights = s.heights; ordered = s.ordered; next = s.next; stacks = slice_set (slice_set s.stacks i rest) (row - 1) (onto ++ blocker s ∷ []) }) (sym first);
    }

-- a family at a position, with what blocks there
abbrev pub Claims : Position → ℕ → Type 0
Claims s n = (family : List (List Blocker)) × IsFamily s family × (n ≡ blocking s + gain s family)

-- after the blocker is well placed there is a family whose bound is one less at most
pub row_claims : (s : Position) (row : ℕ) (family : List (List Blocker)) → IsSoundlyThin s → Contains (good_rows s) row → IsFamily s family →
    IsFamily (child_at s row) (map (without (blocker s)) family) × (blocking s + gain s family ≤ 1 + (blocking (child_at s row) + gain (child_at s row) (map (without (blocker s)) family)))
row_claims s row family thin c f =
    let g = good s row thin c in
    let k : IsShifted s (suc (source s)) row (shifted s row) = shift_is s row thin c in
    let clear : IsClear s = clear_thin s thin in
    let after : List (List Blocker) = map (without (blocker s)) family in
    let o = once_shifted s row thin c in
    let step : FamilyStep s (put s (suc (source s)) row (shifted s row) k) (blocker s) family = family_shifted s family (suc (source s)) row (shifted s row) clear f k in
    let there : GainsIn (gain s family) after (shifted s row) =
    subst (GainsIn (gain s family) after) (sym k.after) (step.kept, family_well s family (suc (source s)) row (shifted s row) clear f k g.free) in
    let r = settle_gains (s.ordered + 1 - s.next) (shifted s row) after
    (record { once = λ y. omega (arith, o y, thin.once y); gone = λ y lt. omega (arith, o y, thin.settled.gone y lt) }) there.0 in
    let same = over_row s row thin c in
    (r.0, omega (arith, r.1, there.1, shift_blocks s row thin c, same.blocks))

-- after it is lifted out there is one whose bound is two less at most
pub lift_claims : (s : Position) (family : List (List Blocker)) → IsSoundlyThin s → s.next ≤ s.ordered → IsFamily s family →
    IsFamily (child_without s) (map (without (blocker s)) family) × (blocking s + gain s family ≤ 2 + (blocking (child_without s) + gain (child_without s) (map (without (blocker s)) family)))
lift_claims s family thin le f =
    let b = buried s thin le in
    let rest : List ℕ = without_top (stack_at s (source s)) in
    let clear : IsClear s = clear_thin s thin in
    let o = once_lifted s thin le in
    let step : FamilyStep s (out s (source s) rest) (blocker s) family =
    family_lifted s family (source s) rest (blocker s) clear f (record { unfinished = le; stack = b.here; buried = b.held }) in
    let r = settle_gains (s.ordered + 1 - s.next) (lifted s) (map (without (blocker s)) family)
    (record { once = λ y. omega (arith, o y, thin.once y); gone = λ y lt. omega (arith, o y, thin.settled.gone y lt) }) step.kept in
    let same = over_lift s thin le in
    (r.0, omega (arith, r.1, step.fewer, lift_blocks s thin le, same.blocks))

-- nothing is claimed where nothing is left to leave
pub end_claims : (s : Position) (family : List (List Blocker)) → IsSoundlyThin s → s.ordered < s.next → IsFamily s family → blocking s + gain s family ≡ 0
end_claims s family thin end f = omega (arith, none_at_end s thin end, gain_past s (clear_thin s thin) end family f.chains)

-- so what families claim falls slowly
pub chains_fall : ClaimsFall Claims
chains_fall = record {
  row = λ s row n thin c k.
      let family : List (List Blocker) = k.0 in
      let r = row_claims s row family thin c k.1 in
      (blocking (child_at s row) + gain (child_at s row) (map (without (blocker s)) family), (map (without (blocker s)) family, r.0, refl), omega (arith, k.2, r.1));
  without = λ s n thin le k.
      let family : List (List Blocker) = k.0 in
      let r = lift_claims s family thin le k.1 in
      (blocking (child_without s) + gain (child_without s) (map (without (blocker s)) family), (map (without (blocker s)) family, r.0, refl), omega (arith, k.2, r.1));
  end = λ s n thin end k. k.2 ∙ end_claims s k.0 thin end k.1;
}
