-- The rows of the ranks that stand, as containers are lifted and put down.
use Rattle.std.proofs.Common.{◌≡◌, ℕ, ◌==◌, ◌<◌, ◌≤◌, true, false, List, [], ◌∷◌, ◌++◌, length, Some, slice_get, get_or, set, sym, ap, ◌∙◌, ⊎_elim, arith, length-set}
use Rattle.std.proofs.lemmas.Option.{slice_get_within, slice_get-get_or, get_or_from_slice_get, same_Some}
use Rattle.std.proofs.lemmas.Bool.{cases_Bool, cases_eq, cases_lt, both_ways, false_from_ne_true, eqb-true}
use Rattle.std.proofs.lemmas.List.{get_or-set_same, get_or-set_other}
use Rattle.crp_plan.specs.Rows.{holds, occurrences}
use Rattle.crp_plan.proofs.Lists.{times_held, get_put_same, get_put_other}
use Rattle.crp_plan.proofs.Determined.{same_row, times_top}
use Rattle.crp_bay.specs.Positions.{without_top, place}
use Rattle.crp_bay.specs.Located.{AreRowsOf}
use Rattle.crp_bay.proofs.Begun.{held_counts}
use Rattle.crp_bay.proofs.Walked.{placed, holds_push}
use Rattle.crp_thinned.proofs.Settling.{stands_occurs, stands_not}
use Rattle.crp_thinning.proofs.Over.{nowhere, somewhere}

-- where it is found
pub found_there : (x i : ℕ) (stacks : List (List ℕ)) (rows : List ℕ) → AreRowsOf (length stacks) stacks rows → i ≡ get_or rows x 0 → i < length stacks → holds x (get_or stacks i []) ≡ true → i ≡ place x stacks
found_there x i stacks rows are e lt h =
    let r = placed x stacks (held_counts stacks x i (get_or stacks i []) (slice_get-get_or stacks i [] lt) h) in
    e ∙ are x (place x stacks) r.0 (slice_get_within stacks (place x stacks) r.0 r.1) r.1 r.2

-- where it is not, it stands nowhere
pub found_nowhere : (x : ℕ) (stacks : List (List ℕ)) (rows : List ℕ) → AreRowsOf (length stacks) stacks rows → (get_or rows x 0 < length stacks → holds x (get_or stacks (get_or rows x 0) []) ≡ false) → length stacks ≡ place x stacks
found_nowhere x stacks rows are none = ⊎_elim
    (λ q. sym q)
    (λ ne.
    let r = placed x stacks (stands_occurs x stacks (somewhere x stacks ne)) in
    let lt : place x stacks < length stacks = slice_get_within stacks (place x stacks) r.0 r.1 in
    let e : get_or rows x 0 ≡ place x stacks = are x (place x stacks) r.0 lt r.1 r.2 in
    let here : get_or stacks (get_or rows x 0) [] ≡ r.0 = ap (λ i. get_or stacks i []) e ∙ get_or_from_slice_get stacks (place x stacks) r.0 [] r.1 in
    absurd (both_ways (holds x r.0) (ap (holds x) (sym here) ∙ none (omega arith)) r.2))
    (cases_eq (place x stacks) (length stacks))

-- the row that is found holds it
pub held_at_place : (x : ℕ) (stacks : List (List ℕ)) (i : ℕ) → i ≡ place x stacks → i < length stacks → (stack : List ℕ) → slice_get stacks i ≡ Some stack → holds x stack ≡ true
held_at_place x stacks i is lt stack e =
    let r = placed x stacks (stands_occurs x stacks (somewhere x stacks (λ q. omega arith))) in
    let same : r.0 ≡ stack = same_Some r.0 stack (sym r.1 ∙ ap (slice_get stacks) (sym is) ∙ e) in
    ap (holds x) (sym same) ∙ r.2

-- and where none is, none does
pub held_nowhere : (x : ℕ) (stacks : List (List ℕ)) → place x stacks ≡ length stacks → (i : ℕ) (stack : List ℕ) → slice_get stacks i ≡ Some stack → holds x stack ≡ false
held_nowhere x stacks is i stack e =
    false_from_ne_true (holds x stack) (λ t. let a = held_counts stacks x i stack e t in let b = stands_not x stacks (nowhere x stacks is) in absurd (omega arith))

-- the top of a row is lifted
pub rows_lifted : (stacks : List (List ℕ)) (rows : List ℕ) (i : ℕ) → i < length stacks → AreRowsOf (length stacks) stacks rows → ((x : ℕ) → holds x (without_top (get_or stacks i [])) ≡ true → holds x (get_or stacks i []) ≡ true) →
    AreRowsOf (length (set stacks i (without_top (get_or stacks i [])))) (set stacks i (without_top (get_or stacks i []))) rows
rows_lifted stacks rows i lt are less x j stack within e held =
    let rest : List ℕ = without_top (get_or stacks i []) in
    let old : List ℕ = get_or stacks i [] in
    let was : slice_get stacks i ≡ Some old = slice_get-get_or stacks i [] lt in
    let j_lt : j < length stacks = omega (arith, length-set stacks i rest) in
    ⊎_elim
    (λ q. let is_rest : rest ≡ stack = same_Some rest stack (sym (get_put_same stacks i old rest was) ∙ ap (slice_get (set stacks i rest)) (sym q) ∙ e) in
    are x i old lt was (less x (ap (holds x) is_rest ∙ held)) ∙ sym q)
    (λ ne. are x j stack j_lt (sym (get_put_other stacks i j rest ne) ∙ e) held)
    (cases_eq j i)

-- a rank is put down
pub rows_landed : (stacks : List (List ℕ)) (rows : List ℕ) (i x : ℕ) → i < length stacks → x < length rows → AreRowsOf (length stacks) stacks rows → occurrences x (set stacks i (get_or stacks i [] ++ x ∷ [])) ≤ 1 →
    AreRowsOf (length (set stacks i (get_or stacks i [] ++ x ∷ []))) (set stacks i (get_or stacks i [] ++ x ∷ [])) (set rows x i)
rows_landed stacks rows i x lt x_lt are once y j stack within e held =
    let old : List ℕ = get_or stacks i [] in
    let more : List ℕ = old ++ x ∷ [] in
    let was : slice_get stacks i ≡ Some old = slice_get-get_or stacks i [] lt in
    let is : slice_get (set stacks i more) i ≡ Some more = get_put_same stacks i old more was in
    let j_lt : j < length stacks = omega (arith, length-set stacks i more) in
    ⊎_elim
    (λ q. ap (λ z. get_or (set rows x i) z 0) q ∙ get_or-set_same rows x i 0 x_lt ∙ same_row x (set stacks i more) i j more stack once is e (times_top x old) (times_held x stack (ap (λ z. holds z stack) (sym q) ∙ held)))
    (λ ne. get_or-set_other rows x y i 0 ne ∙ ⊎_elim
    (λ q. let is_more : more ≡ stack = same_Some more stack (sym is ∙ ap (slice_get (set stacks i more)) (sym q) ∙ e) in
    are y i old lt was (⊎_elim (λ t. t) (λ t. absurd (ne (sym (eqb-true x y t)))) (holds_push y old x (ap (holds y) is_more ∙ held))) ∙ sym q)
    (λ other. are y j stack j_lt (sym (get_put_other stacks i j more other) ∙ e) held)
    (cases_eq j i))
    (cases_eq y x)

-- what stands below the top stands in the stack
pub held_below : (x : ℕ) (stack : List ℕ) → holds x (without_top stack) ≡ true → holds x stack ≡ true
held_below x [] h = h
held_below x (y ∷ []) h = cc
held_below x (y ∷ z ∷ ys) h = ⊎_elim (λ t. Rattle.std.proofs.lemmas.Bool.or_left (y == x) (holds x (z ∷ ys)) t) (λ t. Rattle.std.proofs.lemmas.Bool.or_right (y == x) (holds x (z ∷ ys)) (held_below x (z ∷ ys) t)) (Rattle.std.proofs.lemmas.Bool.or_cases (y == x) (holds x (without_top (z ∷ ys))) h)
