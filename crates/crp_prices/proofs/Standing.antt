-- Who stands on what, under moves.
use Rattle.std.proofs.Common.{◌≡◌, ◌≢◌, ℕ, ◌≤◌, true, false, ◌==◌, List, [], ◌∷◌, ◌++◌, length, Some, slice_get, slice_set, refl, sym, ap, ◌∙◌, ⊎_elim, arith, length-append, append_assoc, append-nil}
use Rattle.std.proofs.lemmas.Option.{same_Some}
use Rattle.std.proofs.lemmas.Bool.{cases_Bool, cases_eq, or_left, or_right, eq-eqb}
use Rattle.crp_plan.specs.Rows.{holds, occurrences, below}
use Rattle.crp_plan.proofs.Lists.{times, times-cons, times_push, times_held, same_is_one, at_le_sum, get_put_same, get_put_other}
use Rattle.crp_plan.proofs.Determined.{same_row, times_top}
use Rattle.crp_plan.proofs.Buried.{below_not_held}
use Rattle.crp_bounds.proofs.Cutting.{times-append}
use Rattle.crp_prices.specs.Prices.{StandsOn}

-- a list that has a, and then x on top
pub split_first : (low over rest : List ℕ) (a x : ℕ) → low ++ a ∷ over ≡ rest ++ x ∷ [] → a ≢ x → (more : List ℕ) × (rest ≡ low ++ a ∷ more)
split_first [] over [] a x e ne = let h : a ≡ x = cc in absurd (ne h)
split_first [] over (r ∷ rest) a x e ne = let h : a ≡ r = cc in (rest, ap (λ y. y ∷ rest) (sym h))
split_first (l ∷ low) over [] a x e ne = absurd (omega (arith, ap length e, length-append low (a ∷ over)))
split_first (l ∷ low) over (r ∷ rest) a x e ne =
    let t : low ++ a ∷ over ≡ rest ++ x ∷ [] = cc in
    let h : l ≡ r = cc in
    let m = split_first low over rest a x t ne in
    (m.0, ap (λ z. r ∷ z) m.1 ∙ ap (λ y. y ∷ (low ++ a ∷ m.0)) (sym h))

-- a list that has x once, on top
split_own : (low over rest : List ℕ) (x : ℕ) → low ++ x ∷ over ≡ rest ++ x ∷ [] → times x rest ≡ 0 → low ≡ rest
split_own [] over [] x e none = refl
split_own [] over (r ∷ rest) x e none =
    let h : x ≡ r = cc in absurd (omega (arith, none, times-cons x r rest, ap (λ y. times x (y ∷ rest)) h, times-cons x x rest, same_is_one x))
split_own (l ∷ low) over [] x e none = absurd (omega (arith, ap length e, length-append low (x ∷ over)))
split_own (l ∷ low) over (r ∷ rest) x e none =
    let t : low ++ x ∷ over ≡ rest ++ x ∷ [] = cc in
    let h : l ≡ r = cc in
    let m : low ≡ rest = split_own low over rest x t (omega (arith, none, times-cons x r rest)) in
    ap (λ z. l ∷ z) m ∙ ap (λ y. y ∷ rest) h

-- who is not the top stands on the same when that is lifted
pub popped : (stacks : List (List ℕ)) (i : ℕ) (rest : List ℕ) (x : ℕ) (low : List ℕ) (a : ℕ) → slice_get stacks i ≡ Some (rest ++ x ∷ []) → a ≢ x →
    StandsOn stacks low a → StandsOn (slice_set stacks i rest) low a
popped stacks i rest x low a top ne s = ⊎_elim
    (λ e.
    let same : low ++ a ∷ s.over ≡ rest ++ x ∷ [] = same_Some (low ++ a ∷ s.over) (rest ++ x ∷ []) (sym s.stands ∙ ap (slice_get stacks) e ∙ top) in
    let m = split_first low s.over rest a x same ne in
    record { row = i; over = m.0; stands = get_put_same stacks i (rest ++ x ∷ []) rest top ∙ ap (λ z. Some z) m.1 })
    (λ other. record { row = s.row; over = s.over; stands = get_put_other stacks i s.row rest other ∙ s.stands })
    (cases_eq s.row i)

-- and when one more is put on a stack
pub pushed : (stacks : List (List ℕ)) (j : ℕ) (onto : List ℕ) (x : ℕ) (low : List ℕ) (a : ℕ) → slice_get stacks j ≡ Some onto →
    StandsOn stacks low a → StandsOn (slice_set stacks j (onto ++ x ∷ [])) low a
pushed stacks j onto x low a here s = ⊎_elim
    (λ e.
    let same : onto ≡ low ++ a ∷ s.over = same_Some onto (low ++ a ∷ s.over) (sym here ∙ ap (slice_get stacks) (sym e) ∙ s.stands) in
    record {
      row = j;
      over = s.over ++ x ∷ [];
      stands = get_put_same stacks j onto (onto ++ x ∷ []) here ∙ ap (λ z. Some (z ++ x ∷ [])) same ∙ ap (λ z. Some z) (append_assoc low (a ∷ s.over) (x ∷ []));
    })
    (λ other. record { row = s.row; over = s.over; stands = get_put_other stacks j s.row (onto ++ x ∷ []) other ∙ s.stands })
    (cases_eq s.row j)

-- who stands on what after a lift stood on it before
pub unpopped : (stacks : List (List ℕ)) (i : ℕ) (rest : List ℕ) (x : ℕ) (low : List ℕ) (a : ℕ) → slice_get stacks i ≡ Some (rest ++ x ∷ []) →
    StandsOn (slice_set stacks i rest) low a → StandsOn stacks low a
unpopped stacks i rest x low a top s = ⊎_elim
    (λ e.
    let same : rest ≡ low ++ a ∷ s.over = same_Some rest (low ++ a ∷ s.over) (sym (get_put_same stacks i (rest ++ x ∷ []) rest top) ∙ ap (slice_get (slice_set stacks i rest)) (sym e) ∙ s.stands) in
    record {
      row = i;
      over = s.over ++ x ∷ [];
      stands = top ∙ ap (λ z. Some (z ++ x ∷ [])) same ∙ ap (λ z. Some z) (append_assoc low (a ∷ s.over) (x ∷ []));
    })
    (λ other. record { row = s.row; over = s.over; stands = sym (get_put_other stacks i s.row rest other) ∙ s.stands })
    (cases_eq s.row i)

-- and so it is with one more on a stack, but for that one
pub unpushed : (stacks : List (List ℕ)) (j : ℕ) (onto : List ℕ) (x : ℕ) (low : List ℕ) (a : ℕ) → slice_get stacks j ≡ Some onto → a ≢ x →
    StandsOn (slice_set stacks j (onto ++ x ∷ [])) low a → StandsOn stacks low a
unpushed stacks j onto x low a here ne s = ⊎_elim
    (λ e.
    let same : low ++ a ∷ s.over ≡ onto ++ x ∷ [] =
    same_Some (low ++ a ∷ s.over) (onto ++ x ∷ []) (sym s.stands ∙ ap (slice_get (slice_set stacks j (onto ++ x ∷ []))) e ∙ get_put_same stacks j onto (onto ++ x ∷ []) here) in
    let m = split_first low s.over onto a x same ne in
    record { row = j; over = m.0; stands = here ∙ ap (λ z. Some z) m.1 })
    (λ other. record { row = s.row; over = s.over; stands = sym (get_put_other stacks j s.row (onto ++ x ∷ []) other) ∙ s.stands })
    (cases_eq s.row j)

-- what is held beneath stands in the bay
pub beneath_stands : (stacks : List (List ℕ)) (low : List ℕ) (a y : ℕ) → StandsOn stacks low a → holds y low ≡ true → 1 ≤ occurrences y stacks
beneath_stands stacks low a y s held =
    omega (arith, at_le_sum (times y) stacks s.row (low ++ a ∷ s.over) s.stands, times-append y low (a ∷ s.over), times_held y low held)

-- nothing stands above a top
pub none_above : (stacks : List (List ℕ)) (i : ℕ) (rest : List ℕ) (x : ℕ) (low : List ℕ) (a : ℕ) → occurrences x stacks ≤ 1 →
    slice_get stacks i ≡ Some (rest ++ x ∷ []) → a ≢ x → StandsOn stacks low a → holds x low ≡ true → ⊥
none_above stacks i rest x low a once top ne s held =
    let some : 1 ≤ times x (low ++ a ∷ s.over) = omega (arith, times-append x low (a ∷ s.over), times_held x low held) in
    let e : s.row ≡ i = same_row x stacks s.row i (low ++ a ∷ s.over) (rest ++ x ∷ []) once s.stands top some (times_top x rest) in
    let same : low ++ a ∷ s.over ≡ rest ++ x ∷ [] = same_Some (low ++ a ∷ s.over) (rest ++ x ∷ []) (sym s.stands ∙ ap (slice_get stacks) e ∙ top) in
    let m = split_first low s.over rest a x same ne in
    omega (
      arith,
      once,
      at_le_sum (times x) stacks i (rest ++ x ∷ []) top,
      times_push x rest x,
      same_is_one x,
      ap (times x) m.1,
      times-append x low (a ∷ m.0),
      times_held x low held,
    )

-- the top stands on the rest of its stack
pub on_top : (stacks : List (List ℕ)) (i : ℕ) (rest : List ℕ) (x : ℕ) (low : List ℕ) → occurrences x stacks ≤ 1 →
    slice_get stacks i ≡ Some (rest ++ x ∷ []) → StandsOn stacks low x → low ≡ rest
on_top stacks i rest x low once top s =
    let some : 1 ≤ times x (low ++ x ∷ s.over) = omega (arith, times-append x low (x ∷ s.over), times-cons x x s.over, same_is_one x) in
    let e : s.row ≡ i = same_row x stacks s.row i (low ++ x ∷ s.over) (rest ++ x ∷ []) once s.stands top some (times_top x rest) in
    let same : low ++ x ∷ s.over ≡ rest ++ x ∷ [] = same_Some (low ++ x ∷ s.over) (rest ++ x ∷ []) (sym s.stands ∙ ap (slice_get stacks) e ∙ top) in
    split_own low s.over rest x same (omega (arith, once, at_le_sum (times x) stacks i (rest ++ x ∷ []) top, times_push x rest x, same_is_one x))

-- a list holds what stands between two parts of it
pub holds_own : (low : List ℕ) (c : ℕ) (over : List ℕ) → holds c (low ++ c ∷ over) ≡ true
holds_own [] c over = or_left (c == c) (holds c over) (eq-eqb c c refl)
holds_own (x ∷ low) c over = or_right (x == c) (holds c (low ++ c ∷ over)) (holds_own low c over)

-- what is below a rank that stands once
pub stands_below : (stacks : List (List ℕ)) (low : List ℕ) (c row : ℕ) (stack : List ℕ) → occurrences c stacks ≤ 1 → StandsOn stacks low c → slice_get stacks row ≡ Some stack → holds c stack ≡ true → below c stack ≡ low
stands_below stacks low c row stack once st here held =
    let whole : List ℕ = low ++ c ∷ st.over in
    let e : st.row ≡ row = same_row c stacks st.row row whole stack once st.stands here (times_held c whole (holds_own low c st.over)) (times_held c stack held) in
    let same : stack ≡ whole = same_Some stack whole (sym here ∙ ap (slice_get stacks) (sym e) ∙ st.stands) in
    let free : holds c low ≡ false = ⊎_elim
    (λ t. absurd (omega (arith, once, at_le_sum (times c) stacks st.row whole st.stands, times-append c low (c ∷ st.over), times-cons c c st.over, same_is_one c, times_held c low t)))
    (λ f. f)
    (cases_Bool (holds c low)) in
    let none : below c (c ∷ st.over) ≡ [] = rw (eq-eqb c c refl) refl in
    ap (below c) same ∙ below_not_held c low (c ∷ st.over) free ∙ ap (λ l. low ++ l) none ∙ append-nil low

-- a rank stands on one list
pub one_beneath : (stacks : List (List ℕ)) (a b : List ℕ) (c : ℕ) → occurrences c stacks ≤ 1 → StandsOn stacks a c → StandsOn stacks b c → a ≡ b
one_beneath stacks a b c once u v =
    sym (stands_below stacks a c u.row (a ++ c ∷ u.over) once u u.stands (holds_own a c u.over)) ∙ stands_below stacks b c u.row (a ++ c ∷ u.over) once v u.stands (holds_own a c u.over)
