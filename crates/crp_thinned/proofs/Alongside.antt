-- A thinned position beside one with one container more: each play of the one is a play of the other.
use Rattle.std.proofs.Common.{◌≡◌, ◌≢◌, ℕ, zero, suc, ◌+◌, ◌<◌, ◌≤◌, Bool, true, false, not, ◌==◌, nat_le, List, [], ◌∷◌, ◌++◌, Some, slice_get, slice_set, get_or, refl, sym, ap, ◌∙◌, subst, ⊎_elim, ◌⊎◌, inl, inr, arith, append-nil, append_assoc}
use Rattle.std.proofs.lemmas.Option.{same_Some, get_or_from_slice_get}
use Rattle.std.proofs.lemmas.Bool.{cases_Bool, cases_eq, and_parts, and_from, and_cases, le-leb, leb-false, not-true, not-false, not_from_false, both_ways, false_from_ne_true}
use Rattle.crp_plan.specs.Rows.{occurrences}
use Rattle.crp_plan.specs.Bay.{Position}
use Rattle.crp_plan.proofs.Lists.{times, one_if, sum_put, at_le_sum, times-cons, times_push, same_is_one, other_is_zero, snoc_parts}
use Rattle.crp_plan.proofs.Determined.{times_top}
use Rattle.crp_plan.proofs.Sound.{occurrences_taken}
use Rattle.crp_bay.specs.Positions.{without_top, ends_in, source, stack_at, can_take, taken}
use Rattle.crp_bay.proofs.Walked.{is_place}
use Rattle.crp_thinned.specs.Thinned.{stands, is_missing, passed, settle_most}
use Rattle.crp_thinned.proofs.Kept.{put_same}
use Rattle.crp_thinned.proofs.Settling.{top_taken, ends_there, stands_occurs, stands_not, step_taken, step_passed, step_stays}
use Rattle.crp_thinned.proofs.Stepping.{without_push, on}
use Rattle.crp_thinned.proofs.Beside.{Beside, pop, fewer, row_more, row_other, put_twice, empty_or_top, times_both, may_stand}

-- w is c with one container more
pub record Apart (x r height : ℕ) (roomy : Bool) (c w : Position) : Type 0 where
  pub rows : List (List ℕ)
  pub is_it : w ≡ on c c.next rows
  pub beside : Beside c.ordered x r height 0 roomy c.stacks rows
  pub low : x ≤ c.ordered
  pub before : c.next ≤ x
  pub high : get_or c.heights r 0 ≡ height

-- or it has left, and they are the same
abbrev pub Stays : ℕ → ℕ → ℕ → Bool → Position → Position → Type 0
Stays x r height roomy c w = (c ≡ w) ⊎ Apart x r height roomy c w

pub carry : (x r height : ℕ) (roomy : Bool) (c w c' w' : Position) → c' ≡ c → w' ≡ w → Stays x r height roomy c w → Stays x r height roomy c' w'
carry x r height roomy c w c' w' e f h =
    let P : Position → Type 0 = λ z. Stays x r height roomy z w in
    let Q : Position → Type 0 = λ z. Stays x r height roomy c' z in
    subst Q (sym f) (subst P (sym e) h)

-- how often a rank stands in W
pub occurs_more : (ordered x r height spare : ℕ) (roomy : Bool) (C W : List (List ℕ)) (y : ℕ) → Beside ordered x r height spare roomy C W → occurrences y W ≡ occurrences y C + one_if (x == y)
occurs_more ordered x r height spare roomy C W y b =
    omega (
      arith,
      ap (occurrences y) b.is_it,
      sum_put (times y) C r (b.pre ++ b.post) (b.pre ++ x ∷ b.post) b.here,
      times_both y b.pre b.post,
      times_both y b.pre (x ∷ b.post),
      times-cons y x b.post,
    )

-- the top of a row of W, where it is not x, is that of the row of C
unpop : (ordered x r height spare : ℕ) (roomy : Bool) (C W : List (List ℕ)) (i y : ℕ) (rest : List ℕ) → Beside ordered x r height spare roomy C W → slice_get W i ≡ Some (rest ++ y ∷ []) → y ≢ x → (less : List ℕ) × (slice_get C i ≡ Some (less ++ y ∷ []))
unpop ordered x r height spare roomy C W i y rest b h not_x = ⊎_elim
    (λ e.
    let P : ℕ → Type 0 = λ k. (less : List ℕ) × (slice_get C k ≡ Some (less ++ y ∷ [])) in
    let same : b.pre ++ x ∷ b.post ≡ rest ++ y ∷ [] = same_Some (b.pre ++ x ∷ b.post) (rest ++ y ∷ []) (sym (row_more ordered x r height spare roomy C W b) ∙ (ap (slice_get W) (sym e) ∙ h)) in
    subst P (sym e) (⊎_elim
    (λ none. absurd (not_x (sym (snoc_parts b.pre rest x y (ap (λ l. b.pre ++ x ∷ l) (sym none) ∙ same)).1)))
    (λ t.
    let last : t.1 ≡ y = (snoc_parts (b.pre ++ x ∷ t.0) rest t.1 y (append_assoc b.pre (x ∷ t.0) (t.1 ∷ []) ∙ ap (λ l. b.pre ++ x ∷ l) (sym t.2) ∙ same)).1 in
    (b.pre ++ t.0, b.here ∙ ap (λ l. Some (b.pre ++ l)) t.2 ∙ ap (λ z. Some (b.pre ++ (t.0 ++ z ∷ []))) last ∙ ap Some (sym (append_assoc b.pre t.0 (y ∷ [])))))
    (empty_or_top b.post)))
    (λ ne. (rest, sym (row_other ordered x r height spare roomy C W i ne b) ∙ h))
    (cases_eq i r)

-- where the take leads
taken_at : (s : Position) (i : ℕ) (rest : List ℕ) → occurrences s.next s.stacks ≤ 1 → slice_get s.stacks i ≡ Some (rest ++ s.next ∷ []) → taken s ≡ on s (suc s.next) (slice_set s.stacks i rest)
taken_at s i rest once h =
    let n : ℕ = s.next in
    let e : source s ≡ i = is_place n s.stacks i (rest ++ n ∷ []) once h (times_top n rest) in
    let here : stack_at s (source s) ≡ rest ++ n ∷ [] = get_or_from_slice_get s.stacks (source s) (rest ++ n ∷ []) [] (ap (slice_get s.stacks) e ∙ h) in
    ap (λ k. on s (suc n) (slice_set s.stacks k (without_top (stack_at s (source s))))) e
    ∙ ap (λ l. on s (suc n) (slice_set s.stacks i (without_top l))) here
    ∙ ap (λ l. on s (suc n) (slice_set s.stacks i l)) (without_push rest n)

-- what is not there cannot be taken, and is missing
absent_waits : (s : Position) → occurrences s.next s.stacks ≡ 0 → can_take s ≡ false
absent_waits s none = false_from_ne_true (can_take s) (λ t.
    let n : ℕ = s.next in
    let rest : List ℕ = without_top (stack_at s (source s)) in
    let here = ends_there n s.stacks (source s) (and_parts (nat_le n s.ordered) (ends_in n (stack_at s (source s))) t).1 in
    omega (arith, none, at_le_sum (times n) s.stacks (source s) (rest ++ n ∷ []) here, times_top n rest))

absent_missing : (s : Position) → s.next ≤ s.ordered → occurrences s.next s.stacks ≡ 0 → is_missing s ≡ true
absent_missing s le none =
    let n : ℕ = s.next in
    and_from (nat_le n s.ordered) (not (stands n s.stacks)) (le-leb n s.ordered le)
    (not_from_false (stands n s.stacks) (false_from_ne_true (stands n s.stacks) (λ t. omega (arith, none, stands_occurs n s.stacks t))))

-- what is there is not missing
there_not_missing : (s : Position) → 1 ≤ occurrences s.next s.stacks → is_missing s ≡ false
there_not_missing s some =
    let n : ℕ = s.next in
    false_from_ne_true (is_missing s) (λ t.
    omega (arith, some, stands_not n s.stacks (not-true (stands n s.stacks) (and_parts (nat_le n s.ordered) (not (stands n s.stacks)) t).1)))

not_missing_there : (s : Position) → s.next ≤ s.ordered → is_missing s ≡ false → 1 ≤ occurrences s.next s.stacks
not_missing_there s le g =
    let n : ℕ = s.next in
    ⊎_elim
    (λ h. absurd (let b = leb-false n s.ordered h in omega arith))
    (λ h. stands_occurs n s.stacks (not-false (stands n s.stacks) h))
    (and_cases (nat_le n s.ordered) (not (stands n s.stacks)) g)

-- when it is x's turn: it leaves the one, and is passed over in the other
at_turn : (most x r height : ℕ) (roomy : Bool) (c : Position) (W : List (List ℕ)) → ((y : ℕ) → occurrences y W ≤ 1) → ((y : ℕ) → y < c.next → occurrences y c.stacks ≡ 0) → Beside c.ordered x r height 0 roomy c.stacks W →
    x ≤ c.ordered → c.next ≡ x → settle_most (suc most) c ≡ settle_most (suc most) (on c c.next W)
at_turn most x r height roomy c W once gone b low e =
    let N : ℕ = c.ordered in let n : ℕ = c.next in let C : List (List ℕ) = c.stacks in
    let w : Position = on c n W in
    let le : n ≤ N = omega arith in
    let none : occurrences n C ≡ 0 = omega (arith, once n, occurs_more N x r height 0 roomy C W n b, ap (λ z. one_if (z == n)) e, same_is_one n) in
    let empty : b.post ≡ [] = ⊎_elim
    (λ q. q)
    (λ t. let z : ℕ = t.1 in
    let some : 1 ≤ times z b.post = omega (arith, ap (times z) t.2, times_push z t.0 z, same_is_one z) in
    let lt : z < x = b.small z some in
    absurd (omega (arith, gone z (omega arith), at_le_sum (times z) C r (b.pre ++ b.post) b.here, times_both z b.pre b.post, some)))
    (empty_or_top b.post) in
    let there : slice_get W r ≡ Some (b.pre ++ n ∷ []) = row_more N x r height 0 roomy C W b ∙ ap (λ l. Some (b.pre ++ x ∷ l)) empty ∙ ap (λ z. Some (b.pre ++ z ∷ [])) (sym e) in
    let back : slice_set W r b.pre ≡ C =
    ap (λ l. slice_set l r b.pre) b.is_it ∙ put_twice C r (b.pre ++ x ∷ b.post) b.pre
    ∙ put_same C r b.pre (b.here ∙ ap (λ l. Some (b.pre ++ l)) empty ∙ ap Some (append-nil b.pre)) in
    let after : taken w ≡ passed c = taken_at w r b.pre (once n) there ∙ ap (on c (suc n)) back in
    step_passed most c (absent_waits c none) (absent_missing c le none)
    ∙ ap (settle_most most) (sym after)
    ∙ sym (step_taken most w (top_taken w r b.pre (once n) le there))

-- both settle alike
pub settle_both : (most x r height : ℕ) (roomy : Bool) (c : Position) (W : List (List ℕ)) → ((y : ℕ) → occurrences y W ≤ 1) → ((y : ℕ) → y < c.next → occurrences y c.stacks ≡ 0) → Beside c.ordered x r height 0 roomy c.stacks W →
    x ≤ c.ordered → c.next ≤ x → get_or c.heights r 0 ≡ height → Stays x r height roomy (settle_most most c) (settle_most most (on c c.next W))
settle_both zero x r height roomy c W once gone b low before high = inr (record { rows = W; is_it = refl; beside = b; low = low; before = before; high = high })
settle_both (suc most) x r height roomy c W once gone b low before high =
    let N : ℕ = c.ordered in let n : ℕ = c.next in let C : List (List ℕ) = c.stacks in
    let w : Position = on c n W in
    let le : n ≤ N = omega arith in
    ⊎_elim
    (λ e. inl (at_turn most x r height roomy c W once gone b low e))
    (λ ne.
    let lt : n < x = omega arith in
    let other : one_if (x == n) ≡ 0 = other_is_zero n x (λ q. ne (sym q)) in
    let as_often : occurrences n W ≡ occurrences n C = omega (arith, occurs_more N x r height 0 roomy C W n b, other) in
    ⊎_elim
    (λ t.
    let rest : List ℕ = without_top (stack_at c (source c)) in
    let here : slice_get C (source c) ≡ Some (rest ++ n ∷ []) = ends_there n C (source c) (and_parts (nat_le n N) (ends_in n (stack_at c (source c))) t).1 in
    let p = pop N x r height roomy C W (source c) n rest n b here le lt (times_top n rest) in
    let W' : List (List ℕ) = slice_set W (source c) p.under in
    let ih = settle_both most x r height roomy (taken c) W'
    (λ y. omega (arith, occurrences_taken y n W (source c) p.under p.got, once y))
    (λ y less. ⊎_elim
    (λ q. omega (arith, occurrences_taken y n C (source c) rest here, once y, occurs_more N x r height 0 roomy C W y b, ap one_if (ap (λ z. z == y) q), same_is_one y))
    (λ differ. omega (arith, occurrences_taken y n C (source c) rest here, gone y (omega arith)))
    (cases_eq n y))
    (fewer N x r height (one_if (may_stand N x rest n)) 0 roomy (slice_set C (source c) rest) W' (λ k. omega arith) p.left) low (omega arith) high in
    carry x r height roomy (settle_most most (taken c)) (settle_most most (on c (suc n) W')) (settle_most (suc most) c) (settle_most (suc most) w)
    (step_taken most c t)
    (step_taken most w (top_taken w (source c) p.under (once n) le p.got) ∙ ap (settle_most most) (taken_at w (source c) p.under (once n) p.got)) ih)
    (λ f. ⊎_elim
    (λ t.
    let none = stands_not n C (not-true (stands n C) (and_parts (nat_le n N) (not (stands n C)) t).1) in
    let none' : occurrences n W ≡ 0 = omega (arith, as_often, none) in
    let ih = settle_both most x r height roomy (passed c) W once (λ y less. ⊎_elim (λ q. ap (λ z. occurrences z C) q ∙ none) (λ differ. gone y (omega arith)) (cases_eq y n)) b low (omega arith) high in
    carry x r height roomy (settle_most most (passed c)) (settle_most most (passed w)) (settle_most (suc most) c) (settle_most (suc most) w)
    (step_passed most c f t) (step_passed most w (absent_waits w none') (absent_missing w le none')) ih)
    (λ g.
    let some : 1 ≤ occurrences n C = not_missing_there c le g in
    let waits : can_take w ≡ false = false_from_ne_true (can_take w) (λ t.
    let rest : List ℕ = without_top (stack_at w (source w)) in
    let here : slice_get W (source w) ≡ Some (rest ++ n ∷ []) = ends_there n W (source w) (and_parts (nat_le n N) (ends_in n (stack_at w (source w))) t).1 in
    let u = unpop N x r height 0 roomy C W (source w) n rest b here ne in
    both_ways (can_take c) f (top_taken c (source w) u.0 (omega (arith, as_often, once n)) le u.1)) in
    carry x r height roomy c w (settle_most (suc most) c) (settle_most (suc most) w)
    (step_stays most c f g) (step_stays most w waits (there_not_missing w (omega (arith, as_often, some))))
    (inr (record { rows = W; is_it = refl; beside = b; low = low; before = before; high = high })))
    (cases_Bool (is_missing c)))
    (cases_Bool (can_take c)))
    (cases_eq n x)
