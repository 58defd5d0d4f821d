-- Settling, step by step.
use Rattle.std.proofs.Common.{◌≡◌, ◌≢◌, ℕ, zero, suc, ◌+◌, ◌-◌, ◌≤◌, ◌&&◌, not, true, false, nat_le, List, [], ◌∷◌, length, refl, sym, ap, ◌∙◌, ⊎_elim, arith}
use Rattle.std.proofs.lemmas.Bool.{cases_Bool, and_parts, and_from, le-leb, leb-true, not_from_false, not_from_true, false_from_ne_true, both_ways}
use Rattle.crp_plan.specs.Rows.{holds}
use Rattle.crp_plan.specs.Bay.{Position}
use Rattle.crp_bay.specs.Positions.{place, ends_in, source, stack_at, can_take, taken}
use Rattle.crp_bounds.proofs.Scanned.{beyond}
use Rattle.crp_thinned.specs.Thinned.{stands, is_missing, passed, settle_most, settled_over}
use Rattle.crp_thinned.proofs.Settling.{step_taken, step_passed, step_stays}

-- where no row is found the rank stands nowhere
pub nowhere : (x : ℕ) (stacks : List (List ℕ)) → place x stacks ≡ length stacks → stands x stacks ≡ false
nowhere x [] h = refl
nowhere x (y ∷ ys) h = ⊎_elim
    (λ t. let e : place x (y ∷ ys) ≡ 0 = rw t refl in absurd (omega arith))
    (λ f. let e : place x (y ∷ ys) ≡ suc (place x ys) = rw f refl in rw f (nowhere x ys (omega arith)))
    (cases_Bool (holds x y))

pub somewhere : (x : ℕ) (stacks : List (List ℕ)) → place x stacks ≢ length stacks → stands x stacks ≡ true
somewhere x [] h = absurd (h refl)
somewhere x (y ∷ ys) h = ⊎_elim
    (λ t. rw t refl)
    (λ f. let e : place x (y ∷ ys) ≡ suc (place x ys) = rw f refl in rw f (somewhere x ys (λ q. h (omega arith))))
    (cases_Bool (holds x y))

pub missing_there : (s : Position) → s.next ≤ s.ordered → source s ≡ length s.stacks → is_missing s ≡ true
missing_there s le e = and_from (nat_le s.next s.ordered) (not (stands s.next s.stacks)) (le-leb s.next s.ordered le) (not_from_false (stands s.next s.stacks) (nowhere s.next s.stacks e))

none_there : (s : Position) → source s ≡ length s.stacks → can_take s ≡ false
none_there s e =
    let here : stack_at s (source s) ≡ [] = beyond s.stacks (source s) [] (omega arith) in
    false_from_ne_true (can_take s) (λ t. let p = (and_parts (nat_le s.next s.ordered) (ends_in s.next (stack_at s (source s))) t).1 in both_ways (ends_in s.next (stack_at s (source s))) (ap (ends_in s.next) here) p)

-- whether it can be taken, by its stack
pub can_is : (s : Position) (stack : List ℕ) → s.next ≤ s.ordered → stack_at s (source s) ≡ stack → can_take s ≡ ends_in s.next stack
can_is s stack le here = ap (λ b. b && ends_in s.next (stack_at s (source s))) (le-leb s.next s.ordered le) ∙ ap (ends_in s.next) here

more_left : (s : Position) → s.next ≤ s.ordered → s.ordered + 1 - s.next ≡ suc (s.ordered + 1 - suc s.next)
more_left s le = omega arith

pub over_taken : (s : Position) → can_take s ≡ true → settled_over (taken s) ≡ settled_over s
over_taken s t =
    let le = leb-true s.next s.ordered (and_parts (nat_le s.next s.ordered) (ends_in s.next (stack_at s (source s))) t).0 in
    sym (ap (λ m. settle_most m s) (more_left s le) ∙ step_taken (s.ordered + 1 - suc s.next) s t)

pub over_passed : (s : Position) → s.next ≤ s.ordered → source s ≡ length s.stacks → settled_over (passed s) ≡ settled_over s
over_passed s le e = sym (ap (λ m. settle_most m s) (more_left s le) ∙ step_passed (s.ordered + 1 - suc s.next) s (none_there s e) (missing_there s le e))

pub over_stays : (s : Position) → can_take s ≡ false → source s ≢ length s.stacks → settled_over s ≡ s
over_stays s f ne = go (s.ordered + 1 - s.next)
  where
    there : is_missing s ≡ false
    there = false_from_ne_true (is_missing s) (λ t. both_ways (not (stands s.next s.stacks)) (not_from_true (stands s.next s.stacks) (somewhere s.next s.stacks ne)) (and_parts (nat_le s.next s.ordered) (not (stands s.next s.stacks)) t).1)

    go : (most : ℕ) → settle_most most s ≡ s
    go zero = refl
    go (suc most) = step_stays most s f there
