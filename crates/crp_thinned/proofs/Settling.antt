-- What leaves by itself, or is passed over, in a thinned position.
use Rattle.std.proofs.Common.{◌≡◌, ℕ, zero, suc, ◌+◌, ◌-◌, ◌<◌, ◌≤◌, Bool, true, false, not, ◌==◌, nat_le, List, [], ◌∷◌, ◌++◌, Some, slice_get, slice_set, get_or, sum_by, All, refl, sym, ap, ◌∙◌, subst, ⊎_elim, arith}
use Rattle.std.proofs.lemmas.Option.{get_or_from_slice_get}
use Rattle.std.proofs.lemmas.Bool.{cases_Bool, cases_eq, cases_lt, and_parts, and_from, and_right, and_left, and_cases, eq-eqb, eqb-true, le-leb, leb-true, leb-false, not_from_true, not-false, or_cases}
use Rattle.crp_plan.specs.Rows.{holds, occurrences}
use Rattle.crp_plan.specs.Bay.{Position, IsSound, IsTaken}
use Rattle.crp_plan.proofs.Lists.{times, one_if, at_le_sum, times_push, times_held, same_is_one, sum_put, occurrences-cons}
use Rattle.crp_plan.proofs.Determined.{times_top}
use Rattle.crp_plan.proofs.Sound.{occurrences_taken}
use Rattle.crp_bay.specs.Positions.{without_top, ends_in, source, stack_at, can_take, taken}
use Rattle.crp_bay.proofs.Walked.{is_place, ends_push}
use Rattle.crp_bounds.specs.Bounds.{holds_lower, blocked_in, blocking}
use Rattle.crp_bounds.proofs.Blocked.{blocked_push, none_lower}
use Rattle.crp_thinned.specs.Thinned.{stands, is_missing, passed, settle_most}
use Rattle.crp_thinned.specs.Missing.{left_of, SitsLow, IsSettled}
use Rattle.crp_thinned.proofs.Kept.{rows_left, other, without, all_left, all_missing, rows_without}
use Rattle.crp_thinned.proofs.Sitting.{low_without_top}

-- a next one on top can be taken
pub top_taken : (s : Position) (i : ℕ) (rest : List ℕ) → occurrences s.next s.stacks ≤ 1 → s.next ≤ s.ordered → slice_get s.stacks i ≡ Some (rest ++ s.next ∷ []) → can_take s ≡ true
top_taken s i rest once le h =
    let e : source s ≡ i = is_place s.next s.stacks i (rest ++ s.next ∷ []) once h (times_top s.next rest) in
    let here : stack_at s (source s) ≡ rest ++ s.next ∷ [] = get_or_from_slice_get s.stacks (source s) (rest ++ s.next ∷ []) [] (ap (slice_get s.stacks) e ∙ h) in
    and_from (nat_le s.next s.ordered) (ends_in s.next (stack_at s (source s))) (le-leb s.next s.ordered le)
    (ap (ends_in s.next) here ∙ ends_push s.next rest s.next ∙ eq-eqb s.next s.next refl)

-- a stack that ends in a rank is its rest and that
ends_split : (x : ℕ) (stack : List ℕ) → ends_in x stack ≡ true → stack ≡ without_top stack ++ x ∷ []
ends_split x [] h = cc
ends_split x (y ∷ []) h = ap (λ z. z ∷ []) (eqb-true y x h)
ends_split x (y ∷ z ∷ ys) h = ap (λ l. y ∷ l) (ends_split x (z ∷ ys) h)

pub ends_there : (x : ℕ) (stacks : List (List ℕ)) (i : ℕ) → ends_in x (get_or stacks i []) ≡ true → slice_get stacks i ≡ Some (without_top (get_or stacks i []) ++ x ∷ [])
ends_there x [] zero h = cc
ends_there x [] (suc i) h = cc
ends_there x (y ∷ ys) zero h = ap Some (ends_split x y h)
ends_there x (y ∷ ys) (suc i) h = ends_there x ys i h

-- a rank that stands somewhere occurs
pub stands_occurs : (x : ℕ) (stacks : List (List ℕ)) → stands x stacks ≡ true → 1 ≤ occurrences x stacks
stands_occurs x [] h = cc
stands_occurs x (y ∷ ys) h = ⊎_elim
    (λ here. omega (arith, occurrences-cons x y ys, times_held x y here))
    (λ there. omega (arith, occurrences-cons x y ys, stands_occurs x ys there))
    (or_cases (holds x y) (stands x ys) h)

-- and one that stands nowhere does not
pub stands_not : (x : ℕ) (stacks : List (List ℕ)) → stands x stacks ≡ false → occurrences x stacks ≡ 0
stands_not x [] h = refl
stands_not x (y ∷ ys) h =
    let p = Rattle.std.proofs.lemmas.Bool.or_parts (holds x y) (stands x ys) h in
    omega (arith, occurrences-cons x y ys, Rattle.crp_plan.proofs.Lists.times_not_held x y p.0, stands_not x ys p.1)

-- the steps of settling
pub step_taken : (most : ℕ) (s : Position) → can_take s ≡ true → settle_most (suc most) s ≡ settle_most most (taken s)
step_taken most s t = rw t refl

pub step_passed : (most : ℕ) (s : Position) → can_take s ≡ false → is_missing s ≡ true → settle_most (suc most) s ≡ settle_most most (passed s)
step_passed most s f t = rw f (rw t refl)

pub step_stays : (most : ℕ) (s : Position) → can_take s ≡ false → is_missing s ≡ false → settle_most (suc most) s ≡ s
step_stays most s f g = rw f (rw g refl)

-- u is what is left of s, settled, and so many block there
pub record Over (s : Position) (count : ℕ) (u : Position) : Type 0 where
  pub keep : ℕ → Bool
  pub next : ℕ
  pub is_left : u ≡ left_of keep next s
  pub low : All (SitsLow keep s.ordered []) s.stacks
  pub settled : IsSettled u
  pub same : blocking u ≡ count

carry : (s : Position) (count more : ℕ) (u v : Position) → count ≡ more → v ≡ u → Over s count u → Over s more v
carry s count more u v e f o =
    let P : Position → Type 0 = λ w. Over s more w in
    subst P (sym f) (record { keep = o.keep; next = o.next; is_left = o.is_left; low = o.low; settled = o.settled; same = o.same ∙ e })

-- a take out of what is left
pub record Lost (keep : ℕ → Bool) (x i : ℕ) (rest : List ℕ) (s : Position) : Type 0 where
  pub rows : slice_set (rows_left keep s.stacks) i rest ≡ rows_left (without x keep) s.stacks
  pub low : All (SitsLow (without x keep) s.ordered []) s.stacks
  pub blocks : sum_by (λ stack. blocked_in s.ordered [] stack) (rows_left (without x keep) s.stacks) + one_if (holds_lower s.ordered x rest) ≡ sum_by (λ stack. blocked_in s.ordered [] stack) (rows_left keep s.stacks)

pub lost : (keep : ℕ → Bool) (x i : ℕ) (rest : List ℕ) (s : Position) → IsSound s → All (SitsLow keep s.ordered []) s.stacks → slice_get (rows_left keep s.stacks) i ≡ Some (rest ++ x ∷ []) → Lost keep x i rest s
lost keep x i rest s sound low h =
    let N : ℕ = s.ordered in
    let f : List ℕ → ℕ = λ stack. blocked_in N [] stack in
    let rows = rows_without keep x s.stacks i rest (sound.once x) h in
    record {
      rows = rows;
      low = low_without_top keep N x s.stacks i rest (sound.once x) h low;
      blocks = omega (arith, sum_put f (rows_left keep s.stacks) i (rest ++ x ∷ []) rest h, blocked_push N [] rest x, ap (sum_by f) rows);
    }

-- what is left settles
pub over : (most : ℕ) (s : Position) (keep : ℕ → Bool) (n : ℕ) → IsSound s → All (SitsLow keep s.ordered []) s.stacks → ((x : ℕ) → x < n → occurrences x (rows_left keep s.stacks) ≡ 0) → s.ordered + 1 ≤ n + most →
    Over s (blocking (left_of keep n s)) (settle_most most (left_of keep n s))
over zero s keep n sound low gone enough = record {
  keep = keep;
  next = n;
  is_left = refl;
  low = low;
  settled = record { gone = gone; there = λ le. absurd (omega arith); no_take = λ row t k. let u = k.unfinished in absurd (omega arith) };
  same = refl;
}
over (suc most) s keep n sound low gone enough =
    let v : Position = left_of keep n s in
    let A : List (List ℕ) = rows_left keep s.stacks in
    ⊎_elim
    (λ t.
    let parts = and_parts (nat_le n s.ordered) (ends_in n (stack_at v (source v))) t in
    let rest : List ℕ = without_top (stack_at v (source v)) in
    let here : slice_get A (source v) ≡ Some (rest ++ n ∷ []) = ends_there n A (source v) parts.1 in
    let l = lost keep n (source v) rest s sound low here in
    let e : taken v ≡ left_of (without n keep) (suc n) s = ap (λ stacks. record { heights = s.heights; ordered = s.ordered; next = suc n; stacks = stacks }) l.rows in
    let gone' : (x : ℕ) → x < suc n → occurrences x (rows_left (without n keep) s.stacks) ≡ 0 = λ x lt. ⊎_elim
    (λ q. all_missing (without n keep) x s.stacks (and_right (keep x) (other n x) (not_from_true (x == n) (eq-eqb x n q))))
    (λ ne. omega (arith, ap (occurrences x) l.rows, occurrences_taken x n A (source v) rest here, gone x (omega arith)))
    (cases_eq x n) in
    let none : holds_lower s.ordered n rest ≡ false = none_lower s.ordered n rest (λ d a b. omega (arith, gone d b, at_le_sum (times d) A (source v) (rest ++ n ∷ []) here, times_push d rest n)) in
    let r = over most s (without n keep) (suc n) sound l.low gone' (omega arith) in
    carry s (blocking (left_of (without n keep) (suc n) s)) (blocking v) (settle_most most (left_of (without n keep) (suc n) s)) (settle_most (suc most) v)
    (omega (arith, l.blocks, ap one_if none)) (step_taken most v t ∙ ap (settle_most most) e) r)
    (λ f. ⊎_elim
    (λ t.
    let parts = and_parts (nat_le n s.ordered) (not (stands n A)) t in
    let none = stands_not n A (Rattle.std.proofs.lemmas.Bool.not-true (stands n A) parts.1) in
    let gone' : (x : ℕ) → x < suc n → occurrences x A ≡ 0 = λ x lt. ⊎_elim (λ q. ap (λ y. occurrences y A) q ∙ none) (λ ne. gone x (omega arith)) (cases_eq x n) in
    let r = over most s keep (suc n) sound low gone' (omega arith) in
    carry s (blocking (left_of keep (suc n) s)) (blocking v) (settle_most most (left_of keep (suc n) s)) (settle_most (suc most) v) refl (step_passed most v f t) r)
    (λ g.
    let there : n ≤ s.ordered → 1 ≤ occurrences n A = λ le. ⊎_elim
    (λ h. absurd (let b = leb-false n s.ordered h in omega arith))
    (λ h. stands_occurs n A (not-false (stands n A) h))
    (and_cases (nat_le n s.ordered) (not (stands n A)) g) in
    let no_take : (row : ℕ) (t : Position) → IsTaken v row t → ⊥ = λ row t k.
    Rattle.std.proofs.lemmas.Bool.both_ways (can_take v) f (top_taken v (row - 1) k.rest (omega (arith, all_left keep n s.stacks, sound.once n)) k.unfinished k.stack) in
    carry s (blocking v) (blocking v) v (settle_most (suc most) v) refl (step_stays most v f g)
    (record { keep = keep; next = n; is_left = refl; low = low; settled = record { gone = gone; there = there; no_take = no_take }; same = refl }))
    (cases_Bool (is_missing v)))
    (cases_Bool (can_take v))
