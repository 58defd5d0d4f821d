-- The rows where the blocker is well placed, as code finds them.
use Rattle.std.proofs.Common.{◌≡◌, ◌≢◌, ℕ, suc, ◌+◌, ◌-◌, ◌<◌, ◌≤◌, ◌&&◌, ◌==◌, not, Bool, true, false, nat_le, nat_lt, List, [], ◌∷◌, length, filter, get_or, refl, sym, ap, ◌∙◌, ⊎_elim, arith}
use Rattle.std.proofs.lemmas.Bool.{cases_Bool, le-leb, eq-eqb, ne_eqb, false_from_ne_true, and_parts, leb-true}
use Rattle.crp_plan.specs.Bay.{Position}
use Rattle.crp_bay.specs.Positions.{top, source, stack_at, can_shift, counted}
use Rattle.crp_bounds.specs.Bounds.{holds_lower}
use Rattle.crp_thinned.specs.Hindering.{hinders_nobody}
use Rattle.crp_thinned.specs.Thinned.{blocker, is_well_placed, good_rows, first, free_row}

pub top_at : (stack : List ℕ) → 0 < length stack → get_or stack (length stack - 1) 0 ≡ top stack
top_at [] h = absurd (omega arith)
top_at (y ∷ []) h = refl
top_at (y ∷ z ∷ ys) h =
    let e : suc (suc (length ys)) - 1 ≡ suc (suc (length ys) - 1) = omega arith in
    rw e (top_at (z ∷ ys) (omega arith))

-- the row of the blocker itself is none
pub own_row : (s : Position) (row : ℕ) → s.next ≤ s.ordered → 1 ≤ row → source s ≡ row - 1 → false ≡ (can_shift s row && is_well_placed s row)
own_row s row le lo e =
    let a : nat_le s.next s.ordered ≡ true = le-leb s.next s.ordered le in
    let b : nat_le 1 row ≡ true = le-leb 1 row lo in
    let c : (source s == row - 1) ≡ true = eq-eqb (source s) (row - 1) e in
    rw a (rw b (rw c refl))

-- another one is asked for room
pub other_row : (s : Position) (row height rank ordered : ℕ) (stack : List ℕ) → s.next ≤ s.ordered → 1 ≤ row → source s ≢ row - 1 → stack_at s (row - 1) ≡ stack → get_or s.heights (row - 1) 0 ≡ height → rank ≡ blocker s → ordered ≡ s.ordered →
    (nat_lt (length stack) height && not (holds_lower ordered rank stack)) ≡ (can_shift s row && is_well_placed s row)
other_row s row height rank ordered stack le lo ne here high is o =
    let a : nat_le s.next s.ordered ≡ true = le-leb s.next s.ordered le in
    let b : nat_le 1 row ≡ true = le-leb 1 row lo in
    let c : (source s == row - 1) ≡ false = ne_eqb (source s) (row - 1) ne in
    ap (λ v. nat_lt (length v) height && not (holds_lower ordered rank v)) (sym here)
    ∙ ap (λ h. nat_lt (length (stack_at s (row - 1))) h && not (holds_lower ordered rank (stack_at s (row - 1)))) (sym high)
    ∙ ap (λ x. nat_lt (length (stack_at s (row - 1))) (get_or s.heights (row - 1) 0) && not (holds_lower ordered x (stack_at s (row - 1)))) is
    ∙ ap (λ n. nat_lt (length (stack_at s (row - 1))) (get_or s.heights (row - 1) 0) && not (holds_lower n (blocker s) (stack_at s (row - 1)))) o
    ∙ (rw a (rw b (rw c refl)))

filter_twice : (p q : ℕ → Bool) (xs : List ℕ) → filter q (filter p xs) ≡ filter (λ x. p x && q x) xs
filter_twice p q [] = refl
filter_twice p q (x ∷ xs) = ⊎_elim
    (λ t. ⊎_elim
    (λ u. rw t (rw u (ap (λ l. x ∷ l) (filter_twice p q xs))))
    (λ v. rw t (rw v (filter_twice p q xs)))
    (cases_Bool (q x)))
    (λ f. rw f (filter_twice p q xs))
    (cases_Bool (p x))

pub rows_found : (s : Position) (row : ℕ) (items : List ℕ) → items ≡ filter (λ x. can_shift s x && is_well_placed s x) (counted 1 (row - 1)) → row - 1 ≡ length s.heights → items ≡ good_rows s
rows_found s row items e all = e ∙ ap (λ n. filter (λ x. can_shift s x && is_well_placed s x) (counted 1 n)) all ∙ sym (filter_twice (can_shift s) (is_well_placed s) (counted 1 (length s.heights)))

none_pass : (p : ℕ → Bool) (xs : List ℕ) → ((x : ℕ) → p x ≡ false) → filter p xs ≡ []
none_pass p [] h = refl
none_pass p (x ∷ xs) h = rw (h x) (none_pass p xs h)

pub no_rows : (s : Position) → s.ordered < s.next → good_rows s ≡ []
no_rows s lt = ap (filter (is_well_placed s)) (none_pass (can_shift s) (counted 1 (length s.heights)) (λ x. false_from_ne_true (can_shift s x) (λ t. let le = leb-true s.next s.ordered (and_parts _ _ t).0 in omega arith)))

-- the row is one where the blocker hinders nobody
abbrev pub is_free : Position → ℕ → Bool
is_free s row = can_shift s row && is_well_placed s row && hinders_nobody s.ordered (blocker s) s.stacks (get_or s.heights (row - 1) 0) (stack_at s (row - 1))

-- the first such row of these that are left
abbrev pub free_from : Position → ℕ → ℕ
free_from s row = first (filter (is_free s) (counted row (length s.heights + 1 - row)))

pub free_begins : (s : Position) → free_row s ≡ free_from s 1
free_begins s =
    let n : length s.heights ≡ length s.heights + 1 - 1 = omega arith in
    ap (λ l. first (filter (λ row. hinders_nobody s.ordered (blocker s) s.stacks (get_or s.heights (row - 1) 0) (stack_at s (row - 1))) l)) (filter_twice (can_shift s) (is_well_placed s) (counted 1 (length s.heights)))
    ∙ ap first (filter_twice (λ x. can_shift s x && is_well_placed s x) (λ row. hinders_nobody s.ordered (blocker s) s.stacks (get_or s.heights (row - 1) 0) (stack_at s (row - 1))) (counted 1 (length s.heights)))
    ∙ ap (λ k. first (filter (is_free s) (counted 1 k))) n

next_row : (s : Position) (row : ℕ) → row ≤ length s.heights → counted row (length s.heights + 1 - row) ≡ row ∷ counted (row + 1) (length s.heights + 1 - (row + 1))
next_row s row le =
    let n : length s.heights + 1 - row ≡ suc (length s.heights + 1 - (row + 1)) = omega arith in let m : suc row ≡ row + 1 = omega arith in
    ap (counted row) n ∙ ap (λ k. row ∷ counted k (length s.heights + 1 - (row + 1))) m

pub free_on : (s : Position) (row : ℕ) → row ≤ length s.heights → is_free s row ≡ false → free_from s row ≡ free_from s (row + 1)
free_on s row le f = ap (λ l. first (filter (is_free s) l)) (next_row s row le) ∙ (rw f refl)

pub free_here : (s : Position) (row : ℕ) → row ≤ length s.heights → is_free s row ≡ true → free_from s row ≡ row
free_here s row le t = ap (λ l. first (filter (is_free s) l)) (next_row s row le) ∙ (rw t refl)

pub free_none : (s : Position) (row : ℕ) → length s.heights < row → free_from s row ≡ 0
free_none s row lt = let n : length s.heights + 1 - row ≡ 0 = omega arith in ap (λ k. first (filter (is_free s) (counted row k))) n

pub no_free : (s : Position) → s.ordered < s.next → free_row s ≡ 0
no_free s lt = ap (λ l. first (filter (λ row. hinders_nobody s.ordered (blocker s) s.stacks (get_or s.heights (row - 1) 0) (stack_at s (row - 1))) l)) (no_rows s lt)

-- nor has one that is not to leave
pub stays_not_free : (s : Position) → s.ordered < blocker s → free_row s ≡ 0
stays_not_free s lt =
    let no : nat_le (blocker s) s.ordered ≡ false = false_from_ne_true (nat_le (blocker s) s.ordered) (λ t. let le = leb-true (blocker s) s.ordered t in omega arith) in
    ap first (none_pass (λ row. hinders_nobody s.ordered (blocker s) s.stacks (get_or s.heights (row - 1) 0) (stack_at s (row - 1))) (good_rows s) (λ row. rw no refl))
