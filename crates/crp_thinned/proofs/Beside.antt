-- Stacks with one container more than others: how each changes with the other.
use Rattle.std.proofs.Common.{◌≡◌, ◌≢◌, ℕ, zero, suc, ◌+◌, ◌<◌, ◌≤◌, Bool, true, false, not, ◌&&◌, nat_le, nat_lt, List, [], ◌∷◌, ◌++◌, length, Some, slice_get, slice_set, sum_by, refl, sym, ap, ◌∙◌, subst, ⊎_elim, ◌⊎◌, inl, inr, arith, append-nil, append_assoc}
use Rattle.std.proofs.lemmas.Bool.{cases_Bool, cases_eq, and_left, and_right, both_ways, ne_eqb, ltb-true, lt-ltb, or_cases, or_left, or_right, and_parts, and_from, false_from_ne_true}
use Rattle.std.proofs.lemmas.Option.{same_Some}
use Rattle.crp_plan.specs.Rows.{holds}
use Rattle.crp_plan.proofs.Lists.{times, one_if, times-cons, times_push, sum_put, get_put_same, get_put_other, snoc_parts, times_not_held}
use Rattle.crp_plan.proofs.Sound.{length_rest}
use Rattle.crp_bounds.specs.Bounds.{holds_lower}
use Rattle.crp_bounds.proofs.Blocked.{lower_from_held}
use Rattle.crp_thinned.specs.Hindering.{hindered, lower_blocking}

-- changes of two rows, and of one row twice
pub put_swap : {X : Type 0} (xs : List X) (i j : ℕ) (a b : X) → i ≢ j → slice_set (slice_set xs i a) j b ≡ slice_set (slice_set xs j b) i a
put_swap [] i j a b ne = refl
put_swap (x ∷ xs) zero zero a b ne = absurd (ne refl)
put_swap (x ∷ xs) zero (suc j) a b ne = refl
put_swap (x ∷ xs) (suc i) zero a b ne = refl
put_swap (x ∷ xs) (suc i) (suc j) a b ne = ap (λ l. x ∷ l) (put_swap xs i j a b (λ e. ne (ap suc e)))

pub put_twice : {X : Type 0} (xs : List X) (i : ℕ) (a b : X) → slice_set (slice_set xs i a) i b ≡ slice_set xs i b
put_twice [] i a b = refl
put_twice (x ∷ xs) zero a b = refl
put_twice (x ∷ xs) (suc i) a b = ap (λ l. x ∷ l) (put_twice xs i a b)

-- a list is empty or has a top
pub empty_or_top : (ys : List ℕ) → (ys ≡ []) ⊎ ((q : List ℕ) × (z : ℕ) × (ys ≡ q ++ z ∷ []))
empty_or_top [] = inl refl
empty_or_top (y ∷ ys) = ⊎_elim
    (λ e. inr ([], y, ap (λ l. y ∷ l) e))
    (λ t. inr (y ∷ t.0, t.1, ap (λ l. y ∷ l) t.2))
    (empty_or_top ys)

-- how often in two lists
pub times_both : (z : ℕ) (xs ys : List ℕ) → times z (xs ++ ys) ≡ times z xs + times z ys
times_both z [] ys = omega arith
times_both z (x ∷ xs) ys = omega (arith, times-cons z x (xs ++ ys), times-cons z x xs, times_both z xs ys)

-- the tests of one container
abbrev pub may_stand : ℕ → ℕ → List ℕ → ℕ → Bool
may_stand ordered x under y = nat_lt y x && holds_lower ordered y under

abbrev pub misses : ℕ → ℕ → List ℕ → List ℕ → ℕ → Bool
misses ordered x onto under y = nat_lt x y && (holds_lower ordered x under && not (holds_lower ordered y onto))

-- one container more on top
pub lower_push : (ordered x : ℕ) (under stack : List ℕ) (y : ℕ) → lower_blocking ordered x under (stack ++ y ∷ []) ≡ lower_blocking ordered x under stack + one_if (may_stand ordered x (under ++ stack) y)
lower_push ordered x under [] y =
    let e : one_if (may_stand ordered x (under ++ []) y) ≡ one_if (may_stand ordered x under y) = ap (λ l. one_if (may_stand ordered x l y)) (append-nil under) in
    omega arith
lower_push ordered x under (z ∷ stack) y =
    let e : one_if (may_stand ordered x ((under ++ z ∷ []) ++ stack) y) ≡ one_if (may_stand ordered x (under ++ z ∷ stack) y) =
    ap (λ l. one_if (may_stand ordered x l y)) (append_assoc under (z ∷ []) stack) in
    omega (arith, lower_push ordered x (under ++ z ∷ []) stack y)

pub hindered_push : (ordered x : ℕ) (onto under stack : List ℕ) (y : ℕ) → hindered ordered x onto under (stack ++ y ∷ []) ≡ hindered ordered x onto under stack + one_if (misses ordered x onto (under ++ stack) y)
hindered_push ordered x onto under [] y =
    let e : one_if (misses ordered x onto (under ++ []) y) ≡ one_if (misses ordered x onto under y) = ap (λ l. one_if (misses ordered x onto l y)) (append-nil under) in
    omega arith
hindered_push ordered x onto under (z ∷ stack) y =
    let e : one_if (misses ordered x onto ((under ++ z ∷ []) ++ stack) y) ≡ one_if (misses ordered x onto (under ++ z ∷ stack) y) =
    ap (λ l. one_if (misses ordered x onto l y)) (append_assoc under (z ∷ []) stack) in
    omega (arith, hindered_push ordered x onto (under ++ z ∷ []) stack y)

-- how many of all stacks
abbrev pub all_lower : ℕ → ℕ → List (List ℕ) → ℕ
all_lower ordered x stacks = sum_by (λ stack. lower_blocking ordered x [] stack) stacks

abbrev pub all_hindered : ℕ → ℕ → List ℕ → List (List ℕ) → ℕ
all_hindered ordered x onto stacks = sum_by (λ stack. hindered ordered x onto [] stack) stacks

-- W is C with one container more, x, in the row at the index r: between `pre`, where none of a lower rank stands, and `post`, where all are lower.
-- Where it is `roomy`, x hinders nobody there, and so many places are to spare
pub record Beside (ordered x r height spare : ℕ) (roomy : Bool) (C W : List (List ℕ)) : Type 0 where
  pub pre : List ℕ
  pub post : List ℕ
  pub here : slice_get C r ≡ Some (pre ++ post)
  pub is_it : W ≡ slice_set C r (pre ++ x ∷ post)
  pub least : holds_lower ordered x pre ≡ false
  pub small : (y : ℕ) → 1 ≤ times y post → y < x
  pub room : roomy ≡ true → length pre + length post + 1 + all_lower ordered x C + spare ≤ height
  pub clear : roomy ≡ true → all_hindered ordered x pre C ≡ 0

-- with fewer places to spare
pub fewer : (ordered x r height spare less : ℕ) (roomy : Bool) (C W : List (List ℕ)) → (roomy ≡ true → less ≤ spare) → Beside ordered x r height spare roomy C W → Beside ordered x r height less roomy C W
fewer ordered x r height spare less roomy C W le b = record {
  pre = b.pre;
  post = b.post;
  here = b.here;
  is_it = b.is_it;
  least = b.least;
  small = b.small;
  room = λ t. omega (arith, b.room t, le t);
  clear = b.clear;
}

-- the rows of W
pub row_more : (ordered x r height spare : ℕ) (roomy : Bool) (C W : List (List ℕ)) → (b : Beside ordered x r height spare roomy C W) → slice_get W r ≡ Some (b.pre ++ x ∷ b.post)
row_more ordered x r height spare roomy C W b = ap (λ l. slice_get l r) b.is_it ∙ get_put_same C r (b.pre ++ b.post) (b.pre ++ x ∷ b.post) b.here

pub row_other : (ordered x r height spare : ℕ) (roomy : Bool) (C W : List (List ℕ)) (i : ℕ) → i ≢ r → (b : Beside ordered x r height spare roomy C W) → slice_get W i ≡ slice_get C i
row_other ordered x r height spare roomy C W i ne b = ap (λ l. slice_get l i) b.is_it ∙ get_put_other C r i (b.pre ++ x ∷ b.post) ne

-- without the top y of the row at index i
pub record Popped (ordered x r height : ℕ) (roomy : Bool) (C W : List (List ℕ)) (i y : ℕ) (rest : List ℕ) : Type 0 where
  pub under : List ℕ
  pub got : slice_get W i ≡ Some (under ++ y ∷ [])
  pub more : (z : ℕ) → times z rest ≤ times z under
  pub left : Beside ordered x r height (one_if (may_stand ordered x rest y)) roomy (slice_set C i rest) (slice_set W i under)

-- what the counts of all stacks lose
pub lower_falls : (ordered x : ℕ) (C : List (List ℕ)) (i y : ℕ) (rest : List ℕ) → slice_get C i ≡ Some (rest ++ y ∷ []) → all_lower ordered x (slice_set C i rest) + one_if (may_stand ordered x rest y) ≡ all_lower ordered x C
lower_falls ordered x C i y rest h = omega (arith, sum_put (λ stack. lower_blocking ordered x [] stack) C i (rest ++ y ∷ []) rest h, lower_push ordered x [] rest y)

pub hindered_falls : (ordered x : ℕ) (onto : List ℕ) (C : List (List ℕ)) (i y : ℕ) (rest : List ℕ) → slice_get C i ≡ Some (rest ++ y ∷ []) → all_hindered ordered x onto (slice_set C i rest) ≤ all_hindered ordered x onto C
hindered_falls ordered x onto C i y rest h = omega (arith, sum_put (λ stack. hindered ordered x onto [] stack) C i (rest ++ y ∷ []) rest h, hindered_push ordered x onto [] rest y)

pop_other : (ordered x r height : ℕ) (roomy : Bool) (C W : List (List ℕ)) (i y : ℕ) (rest : List ℕ) → Beside ordered x r height 0 roomy C W → slice_get C i ≡ Some (rest ++ y ∷ []) → i ≢ r → Popped ordered x r height roomy C W i y rest
pop_other ordered x r height roomy C W i y rest b h ne = record {
  under = rest;
  got = row_other ordered x r height 0 roomy C W i ne b ∙ h;
  more = λ z. omega arith;
  left = record {
    pre = b.pre;
    post = b.post;
    here = get_put_other C i r rest (λ e. ne (sym e)) ∙ b.here;
    is_it = ap (λ l. slice_set l i rest) b.is_it ∙ put_swap C r i (b.pre ++ x ∷ b.post) rest (λ e. ne (sym e));
    least = b.least;
    small = b.small;
    room = λ t. omega (arith, b.room t, lower_falls ordered x C i y rest h);
    clear = λ t. omega (arith, b.clear t, hindered_falls ordered x b.pre C i y rest h);
  };
}

pop_here : (ordered x r height : ℕ) (roomy : Bool) (C W : List (List ℕ)) (y : ℕ) (rest q : List ℕ) → (b : Beside ordered x r height 0 roomy C W) → slice_get C r ≡ Some (rest ++ y ∷ []) → b.post ≡ q ++ y ∷ [] → rest ≡ b.pre ++ q →
    Popped ordered x r height roomy C W r y rest
pop_here ordered x r height roomy C W y rest q b h top e = record {
  under = b.pre ++ x ∷ q;
  got = row_more ordered x r height 0 roomy C W b ∙ ap (λ l. Some (b.pre ++ x ∷ l)) top ∙ ap Some (sym (append_assoc b.pre (x ∷ q) (y ∷ [])));
  more = λ z. omega (arith, ap (times z) e, times_both z b.pre q, times_both z b.pre (x ∷ q), times-cons z x q);
  left = record {
    pre = b.pre;
    post = q;
    here = get_put_same C r (rest ++ y ∷ []) rest h ∙ ap Some e;
    is_it = ap (λ l. slice_set l r (b.pre ++ x ∷ q)) b.is_it ∙ put_twice C r (b.pre ++ x ∷ b.post) (b.pre ++ x ∷ q) ∙ sym (put_twice C r rest (b.pre ++ x ∷ q));
    least = b.least;
    small = λ z some. b.small z (omega (arith, some, ap (times z) top, times_push z q y));
    room = λ t. omega (arith, b.room t, lower_falls ordered x C r y rest h, ap length top, length_rest q y);
    clear = λ t. omega (arith, b.clear t, hindered_falls ordered x b.pre C r y rest h);
  };
}

-- an ordered rank that stands there
lower_there : (ordered n x : ℕ) (ys : List ℕ) → n ≤ ordered → n < x → 1 ≤ times n ys → holds_lower ordered x ys ≡ true
lower_there ordered n x ys le lt some = ⊎_elim
    (λ t. lower_from_held ordered n x ys le lt t)
    (λ f. absurd (omega (arith, some, times_not_held n ys f)))
    (cases_Bool (holds n ys))

-- the row with x: an ordered rank lower than x stands there, so something stands above x
pop_row : (ordered x r height : ℕ) (roomy : Bool) (C W : List (List ℕ)) (y : ℕ) (rest : List ℕ) (n : ℕ) → (b : Beside ordered x r height 0 roomy C W) → slice_get C r ≡ Some (rest ++ y ∷ []) → b.pre ++ b.post ≡ rest ++ y ∷ [] →
    n ≤ ordered → n < x → 1 ≤ times n (rest ++ y ∷ []) → Popped ordered x r height roomy C W r y rest
pop_row ordered x r height roomy C W y rest n b h same le lt some = ⊎_elim
    (λ none.
    let all : b.pre ≡ rest ++ y ∷ [] = sym (append-nil b.pre) ∙ (ap (λ l. b.pre ++ l) (sym none) ∙ same) in
    let stands : 1 ≤ times n b.pre = omega (arith, some, ap (times n) all) in
    absurd (both_ways (holds_lower ordered x b.pre) b.least (lower_there ordered n x b.pre le lt stands)))
    (λ t.
    let parts = snoc_parts (b.pre ++ t.0) rest t.1 y (append_assoc b.pre t.0 (t.1 ∷ []) ∙ (ap (λ l. b.pre ++ l) (sym t.2) ∙ same)) in
    pop_here ordered x r height roomy C W y rest t.0 b h (t.2 ∙ ap (λ z. t.0 ++ z ∷ []) parts.1) (sym parts.0))
    (empty_or_top b.post)

-- any row where such a rank stands
pub pop : (ordered x r height : ℕ) (roomy : Bool) (C W : List (List ℕ)) (i y : ℕ) (rest : List ℕ) (n : ℕ) → Beside ordered x r height 0 roomy C W → slice_get C i ≡ Some (rest ++ y ∷ []) → n ≤ ordered → n < x → 1 ≤ times n (rest ++ y ∷ []) →
    Popped ordered x r height roomy C W i y rest
pop ordered x r height roomy C W i y rest n b h le lt some = ⊎_elim
    (λ e.
    let P : ℕ → Type 0 = λ k. Popped ordered x r height roomy C W k y rest in
    let h' : slice_get C r ≡ Some (rest ++ y ∷ []) = ap (slice_get C) (sym e) ∙ h in
    subst P (sym e) (pop_row ordered x r height roomy C W y rest n b h' (same_Some (b.pre ++ b.post) (rest ++ y ∷ []) (sym b.here ∙ h')) le lt some))
    (λ ne. pop_other ordered x r height roomy C W i y rest b h ne)
    (cases_eq i r)

-- with y on top of the row at index j
pub record Pushed (ordered x r height : ℕ) (roomy : Bool) (C W : List (List ℕ)) (j y : ℕ) (onto : List ℕ) : Type 0 where
  pub onto' : List ℕ
  pub got : slice_get W j ≡ Some onto'
  pub left : Beside ordered x r height 0 roomy (slice_set C j (onto ++ y ∷ [])) (slice_set W j (onto' ++ y ∷ []))

lower_stays : (ordered x : ℕ) (C : List (List ℕ)) (j y : ℕ) (onto : List ℕ) → slice_get C j ≡ Some onto → holds_lower ordered y onto ≡ false → all_lower ordered x (slice_set C j (onto ++ y ∷ [])) ≡ all_lower ordered x C
lower_stays ordered x C j y onto h free =
    let none : may_stand ordered x onto y ≡ false = and_right (nat_lt y x) (holds_lower ordered y onto) free in
    omega (arith, sum_put (λ stack. lower_blocking ordered x [] stack) C j onto (onto ++ y ∷ []) h, lower_push ordered x [] onto y, ap one_if none)

hindered_stays : (ordered x : ℕ) (pre : List ℕ) (C : List (List ℕ)) (j y : ℕ) (onto : List ℕ) → slice_get C j ≡ Some onto → misses ordered x pre onto y ≡ false → all_hindered ordered x pre (slice_set C j (onto ++ y ∷ [])) ≡ all_hindered ordered x pre C
hindered_stays ordered x pre C j y onto h none =
    omega (arith, sum_put (λ stack. hindered ordered x pre [] stack) C j onto (onto ++ y ∷ []) h, hindered_push ordered x pre [] onto y, ap one_if none)

push_other : (ordered x r height spare : ℕ) (roomy : Bool) (C W : List (List ℕ)) (j y : ℕ) (onto : List ℕ) → (b : Beside ordered x r height spare roomy C W) → slice_get C j ≡ Some onto → holds_lower ordered y onto ≡ false → misses ordered x b.pre onto y ≡ false → j ≢ r →
    Pushed ordered x r height roomy C W j y onto
push_other ordered x r height spare roomy C W j y onto b h free none ne = record {
  onto' = onto;
  got = row_other ordered x r height spare roomy C W j ne b ∙ h;
  left = record {
    pre = b.pre;
    post = b.post;
    here = get_put_other C j r (onto ++ y ∷ []) (λ e. ne (sym e)) ∙ b.here;
    is_it = ap (λ l. slice_set l j (onto ++ y ∷ [])) b.is_it ∙ put_swap C r j (b.pre ++ x ∷ b.post) (onto ++ y ∷ []) (λ e. ne (sym e));
    least = b.least;
    small = b.small;
    room = λ t. omega (arith, b.room t, lower_stays ordered x C j y onto h free);
    clear = λ t. omega (arith, b.clear t, hindered_stays ordered x b.pre C j y onto h none);
  };
}

push_here : (ordered x r height spare : ℕ) (roomy : Bool) (C W : List (List ℕ)) (y : ℕ) (onto : List ℕ) → (b : Beside ordered x r height spare roomy C W) → slice_get C r ≡ Some onto → holds_lower ordered y onto ≡ false → misses ordered x b.pre onto y ≡ false → y < x →
    (roomy ≡ true → 1 ≤ spare) → Pushed ordered x r height roomy C W r y onto
push_here ordered x r height spare roomy C W y onto b h free none lt some =
    let e : onto ≡ b.pre ++ b.post = same_Some onto (b.pre ++ b.post) (sym h ∙ b.here) in
    let longer : (b.pre ++ x ∷ b.post) ++ y ∷ [] ≡ b.pre ++ x ∷ (b.post ++ y ∷ []) = append_assoc b.pre (x ∷ b.post) (y ∷ []) in
    record {
      onto' = b.pre ++ x ∷ b.post;
      got = row_more ordered x r height spare roomy C W b;
      left = record {
        pre = b.pre;
        post = b.post ++ y ∷ [];
        here = get_put_same C r onto (onto ++ y ∷ []) h ∙ ap (λ l. Some (l ++ y ∷ [])) e ∙ ap Some (append_assoc b.pre b.post (y ∷ []));
        is_it = ap (λ l. slice_set W r l) longer ∙ ap (λ l. slice_set l r (b.pre ++ x ∷ (b.post ++ y ∷ []))) b.is_it
            ∙ put_twice C r (b.pre ++ x ∷ b.post) (b.pre ++ x ∷ (b.post ++ y ∷ [])) ∙ sym (put_twice C r (onto ++ y ∷ []) (b.pre ++ x ∷ (b.post ++ y ∷ [])));
        least = b.least;
        small = λ z there. ⊎_elim
            (λ q. omega arith)
            (λ ne. b.small z (omega (arith, there, times_push z b.post y, ap one_if (ne_eqb y z ne))))
            (cases_eq y z);
        room = λ t. omega (arith, b.room t, some t, lower_stays ordered x C r y onto h free, length_rest b.post y);
        clear = λ t. omega (arith, b.clear t, hindered_stays ordered x b.pre C r y onto h none);
      };
    }

-- where y is well placed, one greater than x that misses has nothing below it that leaves before x
not_missed : (ordered x : ℕ) (pre onto : List ℕ) (y : ℕ) → holds_lower ordered y onto ≡ false → misses ordered x pre onto y ≡ false
not_missed ordered x pre onto y free = ⊎_elim
    (λ t. false_from_ne_true (misses ordered x pre onto y) (λ m.
    let lt : x < y = ltb-true x y t in
    let p = and_parts (nat_lt x y) (holds_lower ordered x onto && not (holds_lower ordered y pre)) m in
    let q = and_parts (holds_lower ordered x onto) (not (holds_lower ordered y pre)) p.1 in
    both_ways (holds_lower ordered y onto) free (lower_more ordered x y onto (omega arith) q.0)))
    (λ f. and_left (nat_lt x y) (holds_lower ordered x onto && not (holds_lower ordered y pre)) f)
    (cases_Bool (nat_lt x y))
  where
    lower_more : (ordered x y : ℕ) (ys : List ℕ) → x ≤ y → holds_lower ordered x ys ≡ true → holds_lower ordered y ys ≡ true
    lower_more ordered x y [] le h = cc
    lower_more ordered x y (z ∷ zs) le h = ⊎_elim
        (λ here.
        let p = and_parts (nat_le z ordered) (nat_lt z x) here in
        let lt : z < x = ltb-true z x p.1 in
        or_left (nat_le z ordered && nat_lt z y) (holds_lower ordered y zs)
        (and_from (nat_le z ordered) (nat_lt z y) p.0 (lt-ltb z y (omega arith))))
        (λ there. or_right (nat_le z ordered && nat_lt z y) (holds_lower ordered y zs) (lower_more ordered x y zs le there))
        (or_cases (nat_le z ordered && nat_lt z x) (holds_lower ordered x zs) h)

-- it is well placed there
pub push : (ordered x r height spare : ℕ) (roomy : Bool) (C W : List (List ℕ)) (j y : ℕ) (onto : List ℕ) → x ≤ ordered → (b : Beside ordered x r height spare roomy C W) → slice_get C j ≡ Some onto → holds_lower ordered y onto ≡ false →
    (j ≡ r → y < x) → (j ≡ r → roomy ≡ true → 1 ≤ spare) → Pushed ordered x r height roomy C W j y onto
push ordered x r height spare roomy C W j y onto le b h free lt some =
    let none : misses ordered x b.pre onto y ≡ false = not_missed ordered x b.pre onto y free in
    ⊎_elim
    (λ e.
    let P : ℕ → Type 0 = λ k. Pushed ordered x r height roomy C W k y onto in
    subst P (sym e) (push_here ordered x r height spare roomy C W y onto b (ap (slice_get C) (sym e) ∙ h) free none (lt e) (some e)))
    (λ ne. push_other ordered x r height spare roomy C W j y onto b h free none ne)
    (cases_eq j r)
