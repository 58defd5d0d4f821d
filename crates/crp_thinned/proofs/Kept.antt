-- What is left of stacks where some containers are missing.
use Rattle.std.proofs.Common.{◌≡◌, ℕ, zero, suc, ◌≤◌, Bool, true, false, not, ◌==◌, ◌&&◌, List, [], ◌∷◌, ◌++◌, length, map, filter, Some, slice_get, slice_set, refl, sym, ap, ◌∙◌, ⊎_elim, arith, append-nil}
use Rattle.std.specs.List.{list_any}
use Rattle.std.specs.Option.{option_map}
use Rattle.std.proofs.lemmas.Option.{same_Some, slice_get-map}
use Rattle.std.proofs.lemmas.Bool.{cases_Bool, or_cases, or_left, or_right, eq-eqb}
use Rattle.std.proofs.lemmas.List.Elements.{filter-append}
use Rattle.crp_plan.specs.Rows.{occurrences}
use Rattle.crp_plan.proofs.Lists.{times, one_if, times-cons, times_push, same_is_one, other_is_zero, occurrences-cons}

-- the stacks that are left
abbrev pub rows_left : (ℕ → Bool) → List (List ℕ) → List (List ℕ)
rows_left keep stacks = map (filter keep) stacks

-- a stack that is left
pub left_at : (keep : ℕ → Bool) (stacks : List (List ℕ)) (i : ℕ) (stack : List ℕ) → slice_get stacks i ≡ Some stack → slice_get (rows_left keep stacks) i ≡ Some (filter keep stack)
left_at keep stacks i stack h = slice_get-map (filter keep) stacks i ∙ ap (option_map (filter keep)) h

-- with a container that stays on top
pub push_kept : (keep : ℕ → Bool) (rest : List ℕ) (x : ℕ) → keep x ≡ true → filter keep (rest ++ x ∷ []) ≡ filter keep rest ++ x ∷ []
push_kept keep rest x t = filter-append keep rest (x ∷ []) ∙ ap (λ l. filter keep rest ++ l) (one t)
  where
    one : keep x ≡ true → filter keep (x ∷ []) ≡ x ∷ []
    one t = rw t refl

-- with a missing one on top
pub push_missing : (keep : ℕ → Bool) (rest : List ℕ) (x : ℕ) → keep x ≡ false → filter keep (rest ++ x ∷ []) ≡ filter keep rest
push_missing keep rest x f = filter-append keep rest (x ∷ []) ∙ ap (λ l. filter keep rest ++ l) (none f) ∙ append-nil (filter keep rest)
  where
    none : keep x ≡ false → filter keep (x ∷ []) ≡ []
    none f = rw f refl

-- the head stays, or is missing
pub head_kept : (keep : ℕ → Bool) (y : ℕ) (ys : List ℕ) → keep y ≡ true → filter keep (y ∷ ys) ≡ y ∷ filter keep ys
head_kept keep y ys t = rw t refl

pub head_missing : (keep : ℕ → Bool) (y : ℕ) (ys : List ℕ) → keep y ≡ false → filter keep (y ∷ ys) ≡ filter keep ys
head_missing keep y ys f = rw f refl

-- no rank is there more often
pub times_left : (keep : ℕ → Bool) (x : ℕ) (ys : List ℕ) → times x (filter keep ys) ≤ times x ys
times_left keep x [] = omega arith
times_left keep x (y ∷ ys) = ⊎_elim
    (λ t. omega (arith, ap (times x) (head_kept keep y ys t), times-cons x y (filter keep ys), times-cons x y ys, times_left keep x ys))
    (λ f. omega (arith, ap (times x) (head_missing keep y ys f), times-cons x y ys, times_left keep x ys))
    (cases_Bool (keep y))

-- one that stays is there as often
pub times_kept : (keep : ℕ → Bool) (x : ℕ) (ys : List ℕ) → keep x ≡ true → times x (filter keep ys) ≡ times x ys
times_kept keep x [] k = refl
times_kept keep x (y ∷ ys) k = ⊎_elim
    (λ t. omega (arith, ap (times x) (head_kept keep y ys t), times-cons x y (filter keep ys), times-cons x y ys, times_kept keep x ys k))
    (λ f.
    let ne : y ≡ x → ⊥ = λ e. differ (ap keep e) f k in
    omega (arith, ap (times x) (head_missing keep y ys f), times-cons x y ys, other_is_zero x y ne, times_kept keep x ys k))
    (cases_Bool (keep y))
  where
    differ : keep y ≡ keep x → keep y ≡ false → keep x ≡ true → ⊥
    differ e f k = cc

-- a missing one is not there
pub times_missing : (keep : ℕ → Bool) (x : ℕ) (ys : List ℕ) → keep x ≡ false → times x (filter keep ys) ≡ 0
times_missing keep x [] k = refl
times_missing keep x (y ∷ ys) k = ⊎_elim
    (λ t.
    let ne : y ≡ x → ⊥ = λ e. differ (ap keep e) t k in
    omega (arith, ap (times x) (head_kept keep y ys t), times-cons x y (filter keep ys), other_is_zero x y ne, times_missing keep x ys k))
    (λ f. omega (arith, ap (times x) (head_missing keep y ys f), times_missing keep x ys k))
    (cases_Bool (keep y))
  where
    differ : keep y ≡ keep x → keep y ≡ true → keep x ≡ false → ⊥
    differ e t k = cc

-- the same over all stacks
pub all_left : (keep : ℕ → Bool) (x : ℕ) (stacks : List (List ℕ)) → occurrences x (rows_left keep stacks) ≤ occurrences x stacks
all_left keep x [] = omega arith
all_left keep x (y ∷ ys) = omega (arith, occurrences-cons x (filter keep y) (rows_left keep ys), occurrences-cons x y ys, times_left keep x y, all_left keep x ys)

pub all_kept : (keep : ℕ → Bool) (x : ℕ) (stacks : List (List ℕ)) → keep x ≡ true → occurrences x (rows_left keep stacks) ≡ occurrences x stacks
all_kept keep x [] k = refl
all_kept keep x (y ∷ ys) k = omega (arith, occurrences-cons x (filter keep y) (rows_left keep ys), occurrences-cons x y ys, times_kept keep x y k, all_kept keep x ys k)

pub all_missing : (keep : ℕ → Bool) (x : ℕ) (stacks : List (List ℕ)) → keep x ≡ false → occurrences x (rows_left keep stacks) ≡ 0
all_missing keep x [] k = refl
all_missing keep x (y ∷ ys) k = omega (arith, occurrences-cons x (filter keep y) (rows_left keep ys), times_missing keep x y k, all_missing keep x ys k)

-- what is found in what is left was there
pub any_left : (keep p : ℕ → Bool) (ys : List ℕ) → list_any p (filter keep ys) ≡ true → list_any p ys ≡ true
any_left keep p [] h = h
any_left keep p (y ∷ ys) h = ⊎_elim
    (λ t. ⊎_elim (λ here. or_left (p y) (list_any p ys) here) (λ there. or_right (p y) (list_any p ys) (any_left keep p ys there)) (or_cases (p y) (list_any p (filter keep ys)) (sym (ap (list_any p) (head_kept keep y ys t)) ∙ h)))
    (λ f. or_right (p y) (list_any p ys) (any_left keep p ys (sym (ap (list_any p) (head_missing keep y ys f)) ∙ h)))
    (cases_Bool (keep y))

-- it is not longer
pub length_left : (keep : ℕ → Bool) (ys : List ℕ) → length (filter keep ys) ≤ length ys
length_left keep [] = omega arith
length_left keep (y ∷ ys) = ⊎_elim
    (λ t. omega (arith, ap length (head_kept keep y ys t), length_left keep ys))
    (λ f. omega (arith, ap length (head_missing keep y ys f), length_left keep ys))
    (cases_Bool (keep y))

-- all but this one
abbrev pub other : ℕ → ℕ → Bool
other x y = not (y == x)

-- this one is missing too
abbrev pub without : ℕ → (ℕ → Bool) → ℕ → Bool
without x keep y = keep y && other x y

-- first the others, then that one
two_steps : (keep : ℕ → Bool) (x : ℕ) (ys : List ℕ) → filter (without x keep) ys ≡ filter (other x) (filter keep ys)
two_steps keep x [] = refl
two_steps keep x (y ∷ ys) = ⊎_elim
    (λ t. ⊎_elim (λ e. rw t (rw e (two_steps keep x ys))) (λ e. rw t (rw e (ap (λ l. y ∷ l) (two_steps keep x ys)))) (cases_Bool (y == x)))
    (λ f. rw f (two_steps keep x ys))
    (cases_Bool (keep y))

-- where it does not stand, all are other
all_other : (x : ℕ) (ys : List ℕ) → times x ys ≡ 0 → filter (other x) ys ≡ ys
all_other x [] h = refl
all_other x (y ∷ ys) h = ⊎_elim
    (λ e. absurd (omega (arith, times-cons x y ys, ap one_if e)))
    (λ e. rw e (ap (λ l. y ∷ l) (all_other x ys (omega (arith, times-cons x y ys)))))
    (cases_Bool (y == x))

-- a stack without it stays as it is
pub without_absent : (keep : ℕ → Bool) (x : ℕ) (ys : List ℕ) → times x ys ≡ 0 → filter (without x keep) ys ≡ filter keep ys
without_absent keep x ys h = two_steps keep x ys ∙ all_other x (filter keep ys) (omega (arith, h, times_left keep x ys))

-- a stack that it is on top of loses it
pub without_top_one : (keep : ℕ → Bool) (x : ℕ) (ys rest : List ℕ) → times x ys ≤ 1 → filter keep ys ≡ rest ++ x ∷ [] → filter (without x keep) ys ≡ rest
without_top_one keep x ys rest once e =
    let none : times x rest ≡ 0 = omega (arith, ap (times x) e, times_push x rest x, same_is_one x, times_left keep x ys) in
    two_steps keep x ys ∙ ap (filter (other x)) e ∙ push_missing (other x) rest x (ap not (eq-eqb x x refl)) ∙ all_other x rest none

-- stacks without it
rows_absent : (keep : ℕ → Bool) (x : ℕ) (stacks : List (List ℕ)) → occurrences x stacks ≡ 0 → rows_left keep stacks ≡ rows_left (without x keep) stacks
rows_absent keep x [] h = refl
rows_absent keep x (y ∷ ys) h =
    let c = occurrences-cons x y ys in
    ap (λ l. l ∷ rows_left keep ys) (sym (without_absent keep x y (omega (arith, c, h))))
    ∙ ap (λ l. filter (without x keep) y ∷ l) (rows_absent keep x ys (omega (arith, c, h)))

-- it stands in the stack that it is on top of
pub stands_there : (keep : ℕ → Bool) (x : ℕ) (ys rest : List ℕ) → filter keep ys ≡ rest ++ x ∷ [] → 1 ≤ times x ys
stands_there keep x ys rest e = omega (arith, ap (times x) e, times_push x rest x, same_is_one x, times_left keep x ys)

pub stands_somewhere : (keep : ℕ → Bool) (x : ℕ) (stacks : List (List ℕ)) (i : ℕ) (rest : List ℕ) → slice_get (rows_left keep stacks) i ≡ Some (rest ++ x ∷ []) → 1 ≤ occurrences x stacks
stands_somewhere keep x [] i rest h = cc
stands_somewhere keep x (y ∷ ys) zero rest h = omega (arith, occurrences-cons x y ys, stands_there keep x y rest (same_Some (filter keep y) (rest ++ x ∷ []) h))
stands_somewhere keep x (y ∷ ys) (suc i) rest h = omega (arith, occurrences-cons x y ys, stands_somewhere keep x ys i rest h)

-- without the top of one stack it is missing too
pub rows_without : (keep : ℕ → Bool) (x : ℕ) (stacks : List (List ℕ)) (i : ℕ) (rest : List ℕ) → occurrences x stacks ≤ 1 → slice_get (rows_left keep stacks) i ≡ Some (rest ++ x ∷ []) →
    slice_set (rows_left keep stacks) i rest ≡ rows_left (without x keep) stacks
rows_without keep x [] i rest once h = cc
rows_without keep x (y ∷ ys) zero rest once h =
    let e : filter keep y ≡ rest ++ x ∷ [] = same_Some (filter keep y) (rest ++ x ∷ []) h in
    let c = occurrences-cons x y ys in
    let some = stands_there keep x y rest e in
    ap (λ l. l ∷ rows_left keep ys) (sym (without_top_one keep x y rest (omega (arith, c, once)) e))
    ∙ ap (λ l. filter (without x keep) y ∷ l) (rows_absent keep x ys (omega (arith, c, once, some)))
rows_without keep x (y ∷ ys) (suc i) rest once h =
    let c = occurrences-cons x y ys in
    let some = stands_somewhere keep x ys i rest h in
    ap (λ l. l ∷ slice_set (rows_left keep ys) i rest) (sym (without_absent keep x y (omega (arith, c, once, some))))
    ∙ ap (λ l. filter (without x keep) y ∷ l) (rows_without keep x ys i rest (omega (arith, c, once)) h)

-- a stack that is put back as it is
pub put_same : {X : Type 0} (xs : List X) (i : ℕ) (x : X) → slice_get xs i ≡ Some x → slice_set xs i x ≡ xs
put_same [] i x h = refl
put_same (y ∷ ys) zero x h = ap (λ z. z ∷ ys) (sym (same_Some y x h))
put_same (y ∷ ys) (suc i) x h = ap (λ l. y ∷ l) (put_same ys i x h)
