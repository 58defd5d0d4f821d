-- Who stands on what, under moves.
use Rattle.std.proofs.Common.{◌≡◌, ◌≢◌, ℕ, ◌≤◌, true, List, [], ◌∷◌, ◌++◌, length, Some, slice_get, slice_set, refl, sym, ap, ◌∙◌, ⊎_elim, arith, length-append, append_assoc}
use Rattle.std.proofs.lemmas.Option.{same_Some}
use Rattle.std.proofs.lemmas.Bool.{cases_eq}
use Rattle.crp_plan.specs.Rows.{holds, occurrences}
use Rattle.crp_plan.proofs.Lists.{times, times-cons, times_push, times_held, same_is_one, at_le_sum, get_put_same, get_put_other}
use Rattle.crp_plan.proofs.Determined.{same_row, times_top}
use Rattle.crp_bounds.proofs.Cutting.{times-append}
use Rattle.crp_chains.specs.Chains.{StandsOn}

-- a list that has a, and then x on top
pub split_first : (low over rest : List ℕ) (a x : ℕ) → low ++ a ∷ over ≡ rest ++ x ∷ [] → a ≢ x → (more : List ℕ) × (rest ≡ low ++ a ∷ more)
split_first [] over [] a x e ne = let h : a ≡ x = cc in absurd (ne h)
split_first [] over (r ∷ rest) a x e ne = let h : a ≡ r = cc in (rest, ap (λ y. y ∷ rest) (sym h))
split_first (l ∷ low) over [] a x e ne = absurd (omega (arith, ap length e, length-append low (a ∷ over)))
split_first (l ∷ low) over (r ∷ rest) a x e ne =
    let t : low ++ a ∷ over ≡ rest ++ x ∷ [] = cc in
    let h : l ≡ r = cc in
    let m = split_first low over rest a x t ne in
    (m.0, ap (λ z. r ∷ z) m.1 ∙ ap (λ y. y ∷ (low ++ a ∷ m.0)) (sym h))

-- a list that has x once, on top
split_own : (low over rest : List ℕ) (x : ℕ) → low ++ x ∷ over ≡ rest ++ x ∷ [] → times x rest ≡ 0 → low ≡ rest
split_own [] over [] x e none = refl
split_own [] over (r ∷ rest) x e none =
    let h : x ≡ r = cc in absurd (omega (arith, none, times-cons x r rest, ap (λ y. times x (y ∷ rest)) h, times-cons x x rest, same_is_one x))
split_own (l ∷ low) over [] x e none = absurd (omega (arith, ap length e, length-append low (x ∷ over)))
split_own (l ∷ low) over (r ∷ rest) x e none =
    let t : low ++ x ∷ over ≡ rest ++ x ∷ [] = cc in
    let h : l ≡ r = cc in
    let m : low ≡ rest = split_own low over rest x t (omega (arith, none, times-cons x r rest)) in
    ap (λ z. l ∷ z) m ∙ ap (λ y. y ∷ rest) h

-- who is not the top stands on the same when that is lifted
pub popped : (stacks : List (List ℕ)) (i : ℕ) (rest : List ℕ) (x : ℕ) (low : List ℕ) (a : ℕ) → slice_get stacks i ≡ Some (rest ++ x ∷ []) → a ≢ x →
    StandsOn stacks low a → StandsOn (slice_set stacks i rest) low a
popped stacks i rest x low a top ne s = ⊎_elim
    (λ e.
    let same : low ++ a ∷ s.over ≡ rest ++ x ∷ [] = same_Some (low ++ a ∷ s.over) (rest ++ x ∷ []) (sym s.stands ∙ ap (slice_get stacks) e ∙ top) in
    let m = split_first low s.over rest a x same ne in
    record { row = i; over = m.0; stands = get_put_same stacks i (rest ++ x ∷ []) rest top ∙ ap (λ z. Some z) m.1 })
    (λ other. record { row = s.row; over = s.over; stands = get_put_other stacks i s.row rest other ∙ s.stands })
    (cases_eq s.row i)

-- and when one more is put on a stack
pub pushed : (stacks : List (List ℕ)) (j : ℕ) (onto : List ℕ) (x : ℕ) (low : List ℕ) (a : ℕ) → slice_get stacks j ≡ Some onto →
    StandsOn stacks low a → StandsOn (slice_set stacks j (onto ++ x ∷ [])) low a
pushed stacks j onto x low a here s = ⊎_elim
    (λ e.
    let same : onto ≡ low ++ a ∷ s.over = same_Some onto (low ++ a ∷ s.over) (sym here ∙ ap (slice_get stacks) (sym e) ∙ s.stands) in
    record {
      row = j;
      over = s.over ++ x ∷ [];
      stands = get_put_same stacks j onto (onto ++ x ∷ []) here ∙ ap (λ z. Some (z ++ x ∷ [])) same ∙ ap (λ z. Some z) (append_assoc low (a ∷ s.over) (x ∷ []));
    })
    (λ other. record { row = s.row; over = s.over; stands = get_put_other stacks j s.row (onto ++ x ∷ []) other ∙ s.stands })
    (cases_eq s.row j)

-- what is held beneath stands in the bay
pub beneath_stands : (stacks : List (List ℕ)) (low : List ℕ) (a y : ℕ) → StandsOn stacks low a → holds y low ≡ true → 1 ≤ occurrences y stacks
beneath_stands stacks low a y s held =
    omega (arith, at_le_sum (times y) stacks s.row (low ++ a ∷ s.over) s.stands, times-append y low (a ∷ s.over), times_held y low held)

-- nothing stands above a top
pub none_above : (stacks : List (List ℕ)) (i : ℕ) (rest : List ℕ) (x : ℕ) (low : List ℕ) (a : ℕ) → occurrences x stacks ≤ 1 →
    slice_get stacks i ≡ Some (rest ++ x ∷ []) → a ≢ x → StandsOn stacks low a → holds x low ≡ true → ⊥
none_above stacks i rest x low a once top ne s held =
    let some : 1 ≤ times x (low ++ a ∷ s.over) = omega (arith, times-append x low (a ∷ s.over), times_held x low held) in
    let e : s.row ≡ i = same_row x stacks s.row i (low ++ a ∷ s.over) (rest ++ x ∷ []) once s.stands top some (times_top x rest) in
    let same : low ++ a ∷ s.over ≡ rest ++ x ∷ [] = same_Some (low ++ a ∷ s.over) (rest ++ x ∷ []) (sym s.stands ∙ ap (slice_get stacks) e ∙ top) in
    let m = split_first low s.over rest a x same ne in
    omega (
      arith,
      once,
      at_le_sum (times x) stacks i (rest ++ x ∷ []) top,
      times_push x rest x,
      same_is_one x,
      ap (times x) m.1,
      times-append x low (a ∷ m.0),
      times_held x low held,
    )

-- the top stands on the rest of its stack
pub on_top : (stacks : List (List ℕ)) (i : ℕ) (rest : List ℕ) (x : ℕ) (low : List ℕ) → occurrences x stacks ≤ 1 →
    slice_get stacks i ≡ Some (rest ++ x ∷ []) → StandsOn stacks low x → low ≡ rest
on_top stacks i rest x low once top s =
    let some : 1 ≤ times x (low ++ x ∷ s.over) = omega (arith, times-append x low (x ∷ s.over), times-cons x x s.over, same_is_one x) in
    let e : s.row ≡ i = same_row x stacks s.row i (low ++ x ∷ s.over) (rest ++ x ∷ []) once s.stands top some (times_top x rest) in
    let same : low ++ x ∷ s.over ≡ rest ++ x ∷ [] = same_Some (low ++ x ∷ s.over) (rest ++ x ∷ []) (sym s.stands ∙ ap (slice_get stacks) e ∙ top) in
    split_own low s.over rest x same (omega (arith, once, at_le_sum (times x) stacks i (rest ++ x ∷ []) top, times_push x rest x, same_is_one x))
