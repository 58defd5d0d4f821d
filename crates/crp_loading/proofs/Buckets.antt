-- A list that rises by its turns is that of the first turn, then that of the second, and so on, and then that of none.
use Rattle.std.proofs.Common.{◌≡◌, ◌∙◌, ℕ, zero, suc, ◌+◌, ◌<◌, ◌≤◌, arith, Bool, true, false, nat_le, cond, Option, Some, None, List, [], ◌∷◌, ◌++◌, length, get_or, refl, sym, ap, append-nil}
use Rattle.std.specs.Prelude.{◌||◌, ◌&&◌, not, filter, flat_map, unwrap_or, IfSome}
use Rattle.std.specs.Ordering.{is_lt, nat_cmp}
use Rattle.std.specs.List.{AllByRecursion, range_with_len}
use Rattle.std.specs.List.Sorted.{IsNonDecreasingBy, ties}
use Rattle.std.proofs.lemmas.Bool.{false≢true}
use Rattle.std.proofs.lemmas.Bool.Decides.{nat_tests}
use Rattle.std.proofs.lemmas.List.Concat.{flat_map-append}
use Rattle.std.proofs.lemmas.List.Elements.{filter_agree}
use Rattle.crp_loading.specs.Loading.{is_turn, is_no_turn}

-- one number more
range_more : (a n : ℕ) → range_with_len a (suc n) ≡ range_with_len a n ++ (a + n) ∷ []
range_more a zero = let e : a ≡ a + 0 = omega arith in ap (λ k. k ∷ []) e
range_more a (suc n) =
    let e : a + 1 + n ≡ a + suc n = omega arith in
    ap (λ l. a ∷ l) (range_more (a + 1) n ∙ ap (λ k. range_with_len (a + 1) n ++ k ∷ []) e)

-- the same from 1 on
pub one_more : (n : ℕ) → range_with_len 1 (suc n) ≡ range_with_len 1 n ++ suc n ∷ []
one_more n = let e : 1 + n ≡ suc n = omega arith in range_more 1 n ∙ ap (λ k. range_with_len 1 n ++ k ∷ []) e

module _ {X : Type 0} where
  -- two tests that agree at each element keep the same
  agree_on : (p q : X → Bool) (xs : List X) → AllByRecursion (λ x. p x ≡ q x) xs → filter p xs ≡ filter q xs
  agree_on p q [] all = refl
  agree_on p q (x ∷ xs) all = rw (all.0, agree_on p q xs all.1) refl

  none_kept : (p : X → Bool) (xs : List X) → AllByRecursion (λ x. p x ≡ false) xs → filter p xs ≡ []
  none_kept p [] all = refl
  none_kept p (x ∷ xs) all = rw (all.0) (none_kept p xs all.1)

  all_of : (P Q : X → Type 0) → ((x : X) → P x → Q x) → (xs : List X) → AllByRecursion P xs → AllByRecursion Q xs
  all_of P Q f [] all = tt
  all_of P Q f (x ∷ xs) all = (f x all.0, all_of P Q f xs all.1)

  all_both : (P Q : X → Type 0) (xs : List X) → AllByRecursion P xs → AllByRecursion Q xs → AllByRecursion (λ x. P x × Q x) xs
  all_both P Q [] a b = tt
  all_both P Q (x ∷ xs) a b = ((a.0, b.0), all_both P Q xs a.1 b.1)

  -- what a filter begins with passes
  passes : (p : X → Bool) (xs : List X) (z : X) (rest : List X) → filter p xs ≡ z ∷ rest → p z ≡ true
  passes p [] z rest e = cc
  passes p (x ∷ xs) z rest e = go (p x) refl e (passes p xs z rest)
    where
      go : (b : Bool) → p x ≡ b → cond b (x ∷ filter p xs) (filter p xs) ≡ z ∷ rest → (filter p xs ≡ z ∷ rest → p z ≡ true) → p z ≡ true
      go true h k later = let same : x ≡ z = cc in ap p (sym same) ∙ h
      go false h k later = later k

  module _ (key : X → ℕ) where
    -- no number of the list is below one before it
    abbrev pub Rises : List X → Type 0
    Rises [] = Unit {0}
    Rises (x ∷ xs) = AllByRecursion (λ y. key x ≤ key y) xs × Rises xs

    -- what passes p stands before what passes q
    split : (Good : X → Type 0) (p q r : X → Bool) → ((x : X) → Good x → r x ≡ (p x || q x)) → ((x : X) → p x ≡ true → q x ≡ false)
        → ((x y : X) → q x ≡ true → Good y → key x ≤ key y → p y ≡ false) → (xs : List X) → AllByRecursion Good xs → Rises xs → filter r xs ≡ filter p xs ++ filter q xs
    split Good p q r either apart behind [] good up = refl
    split Good p q r either apart behind (x ∷ xs) good up = go (p x) (q x) refl refl (split Good p q r either apart behind xs good.1 up.1)
      where
        go : (a b : Bool) → p x ≡ a → q x ≡ b → filter r xs ≡ filter p xs ++ filter q xs
            → cond (r x) (x ∷ filter r xs) (filter r xs) ≡ cond (p x) (x ∷ filter p xs) (filter p xs) ++ cond (q x) (x ∷ filter q xs) (filter q xs)
        go true true e f rest = let no : q x ≡ false = apart x e in cc
        go true false e f rest = rw (either x good.0, e, f) (ap (λ l. x ∷ l) rest)
        go false true e f rest =
            let none : filter p xs ≡ [] = none_kept p xs (all_of (λ y. Good y × (key x ≤ key y)) (λ y. p y ≡ false) (λ y h. behind x y f h.0 h.1) xs (all_both Good (λ y. key x ≤ key y) xs good.1 up.0)) in
            rw (either x good.0, e, f) (ap (λ l. x ∷ l) (rest ∙ ap (λ l. l ++ filter q xs) none) ∙ ap (λ l. l ++ x ∷ filter q xs) (sym none))
        go false false e f rest = rw (either x good.0, e, f) rest

    risen : (xs : List X) → IsNonDecreasingBy key xs → Rises xs
    risen [] up = tt
    risen (x ∷ xs) up = (first xs (λ i lt d. up 0 (suc i) d (omega arith) (omega arith)), risen xs (λ i j d le lt. up (suc i) (suc j) d (omega arith) (omega arith)))
      where
        first : (ys : List X) → ((i : ℕ) → i < length ys → (d : X) → key x ≤ key (get_or ys i d)) → AllByRecursion (λ y. key x ≤ key y) ys
        first [] h = tt
        first (y ∷ ys) h = (h 0 (omega arith) x, first ys (λ i lt d. h (suc i) (omega arith) d))

-- ---- tests on a turn, where there are so many turns, from 1, and that of none counts as a number above

abbrev pub IsGood : ℕ → Option ℕ → Type 0
IsGood turns turn = IfSome turn (λ t. (1 ≤ t) × (t ≤ turns))

or_last : (n turns top : ℕ) → n < turns → turns < top → (turn : Option ℕ) → IsGood turns turn → nat_le (unwrap_or turn top) (suc n) ≡ (nat_le (unwrap_or turn top) n || is_turn (suc n) turn)
or_last n turns top low high None good = grind (arith, nat_tests)
or_last n turns top low high (Some t) good = grind (arith, nat_tests)

not_last : (n top : ℕ) (turn : Option ℕ) → nat_le (unwrap_or turn top) n ≡ true → is_turn (suc n) turn ≡ false
not_last n top None e = refl
not_last n top (Some t) e = grind (arith, nat_tests)

not_low : (n turns top : ℕ) → n < turns → turns < top → (a b : Option ℕ) → is_turn (suc n) a ≡ true → unwrap_or a top ≤ unwrap_or b top → nat_le (unwrap_or b top) n ≡ false
not_low n turns top low high None b e le = absurd (false≢true e)
not_low n turns top low high (Some t) b e le = grind (arith, nat_tests)

or_none : (turns top : ℕ) → turns < top → (turn : Option ℕ) → IsGood turns turn → true ≡ (nat_le (unwrap_or turn top) turns || is_no_turn turn)
or_none turns top high None good = grind (arith, nat_tests)
or_none turns top high (Some t) good = grind (arith, nat_tests)

not_none : (turns top : ℕ) → turns < top → (turn : Option ℕ) → nat_le (unwrap_or turn top) turns ≡ true → is_no_turn turn ≡ false
not_none turns top high None e = grind (arith, nat_tests)
not_none turns top high (Some t) e = refl

above_none : (turns top : ℕ) → turns < top → (a b : Option ℕ) → is_no_turn a ≡ true → unwrap_or a top ≤ unwrap_or b top → nat_le (unwrap_or b top) turns ≡ false
above_none turns top high None b e le = grind (arith, nat_tests)
above_none turns top high (Some t) b e le = absurd (false≢true e)

nothing_low : (turns top : ℕ) → turns < top → (turn : Option ℕ) → IsGood turns turn → nat_le (unwrap_or turn top) 0 ≡ false
nothing_low turns top high None good = grind (arith, nat_tests)
nothing_low turns top high (Some t) good = grind (arith, nat_tests)

module _ {X : Type 0} (turn : X → Option ℕ) (turns top : ℕ) (high : turns < top) where
  -- those of each of the first n turns
  abbrev pub firsts : ℕ → List X → List X
  firsts n xs = flat_map (λ k. filter (λ x. is_turn k (turn x)) xs) (range_with_len 1 n)

  all_kept : (xs : List X) → filter (λ _. true) xs ≡ xs
  all_kept [] = refl
  all_kept (x ∷ xs) = ap (λ l. x ∷ l) (all_kept xs)

  are_firsts : (n : ℕ) → n ≤ turns → (xs : List X) → AllByRecursion (λ x. IsGood turns (turn x)) xs → Rises (λ x. unwrap_or (turn x) top) xs
      → filter (λ x. nat_le (unwrap_or (turn x) top) n) xs ≡ firsts n xs
  are_firsts zero le xs good up = none_kept (λ x. nat_le (unwrap_or (turn x) top) 0) xs (all_of (λ x. IsGood turns (turn x)) (λ x. nat_le (unwrap_or (turn x) top) 0 ≡ false) (λ x h. nothing_low turns top high (turn x) h) xs good)
  are_firsts (suc n) le xs good up =
      let lt : n < turns = omega arith in
      let f = λ (k : ℕ). filter (λ (x : X). is_turn k (turn x)) xs in
      split (λ x. unwrap_or (turn x) top) (λ x. IsGood turns (turn x)) (λ x. nat_le (unwrap_or (turn x) top) n) (λ x. is_turn (suc n) (turn x)) (λ x. nat_le (unwrap_or (turn x) top) (suc n))
      (λ x h. or_last n turns top lt high (turn x) h) (λ x h. not_last n top (turn x) h) (λ x y h _ le. not_low n turns top lt high (turn x) (turn y) h le) xs good up
      ∙ ap (λ l. l ++ f (suc n)) (are_firsts n (omega arith) xs good up)
      ∙ ap (λ l. firsts n xs ++ l) (sym (append-nil (f (suc n))))
      ∙ sym (flat_map-append f (range_with_len 1 n) (suc n ∷ []))
      ∙ ap (flat_map f) (sym (one_more n))

  pub are_buckets : (xs : List X) → AllByRecursion (λ x. IsGood turns (turn x)) xs → IsNonDecreasingBy (λ x. unwrap_or (turn x) top) xs → xs ≡ firsts turns xs ++ filter (λ x. is_no_turn (turn x)) xs
  are_buckets xs good rising =
      let up = risen (λ (x : X). unwrap_or (turn x) top) xs rising in
      sym (all_kept xs)
      ∙ split (λ x. unwrap_or (turn x) top) (λ x. IsGood turns (turn x)) (λ x. nat_le (unwrap_or (turn x) top) turns) (λ x. is_no_turn (turn x)) (λ _. true)
      (λ x h. or_none turns top high (turn x) h) (λ x h. not_none turns top high (turn x) h) (λ x y h _ le. above_none turns top high (turn x) (turn y) h le) xs good up
      ∙ ap (λ l. l ++ filter (λ x. is_no_turn (turn x)) xs) (are_firsts turns (omega arith) xs good up)

  -- ---- what is kept of a list that is sorted so that those of one turn stay as they were

  abbrev lower : X → X → Bool
  lower x y = is_lt (nat_cmp (unwrap_or (turn x) top) (unwrap_or (turn y) top))

  same_if_some : (p : X → Bool) (xs ys : List X) → ((z : X) → p z ≡ true → filter p ys ≡ filter p xs) → filter p ys ≡ filter p xs
  same_if_some p xs ys f = go (filter p xs) (filter p ys) refl refl
    where
      go : (mine yours : List X) → filter p xs ≡ mine → filter p ys ≡ yours → filter p ys ≡ filter p xs
      go [] [] e h = h ∙ sym e
      go (z ∷ mine) yours e h = f z (passes p xs z mine e)
      go [] (z ∷ yours) e h = f z (passes p ys z yours h)

  ties_turn : (n : ℕ) → n < top → (z x : X) → is_turn n (turn z) ≡ true → is_turn n (turn x) ≡ ties lower z x
  ties_turn n low z x e = on (turn z) (turn x) e
    where
      on : (a b : Option ℕ) → is_turn n a ≡ true → is_turn n b ≡ (not (is_lt (nat_cmp (unwrap_or a top) (unwrap_or b top))) && not (is_lt (nat_cmp (unwrap_or b top) (unwrap_or a top))))
      on None b h = absurd (false≢true h)
      on (Some t) None h = grind (arith, nat_tests)
      on (Some t) (Some u) h = grind (arith, nat_tests)

  ties_none : (z x : X) → is_no_turn (turn z) ≡ true → IsGood turns (turn x) → is_no_turn (turn x) ≡ ties lower z x
  ties_none z x e good = on (turn z) (turn x) e good
    where
      on : (a b : Option ℕ) → is_no_turn a ≡ true → IsGood turns b → is_no_turn b ≡ (not (is_lt (nat_cmp (unwrap_or a top) (unwrap_or b top))) && not (is_lt (nat_cmp (unwrap_or b top) (unwrap_or a top))))
      on (Some t) b h k = absurd (false≢true h)
      on None None h k = grind (arith, nat_tests)
      on None (Some u) h k = grind (arith, nat_tests)

  -- the list sorted by turns, those of one turn as they were
  pub sorted_are : (xs ys : List X) → AllByRecursion (λ x. IsGood turns (turn x)) xs → AllByRecursion (λ x. IsGood turns (turn x)) ys → IsNonDecreasingBy (λ x. unwrap_or (turn x) top) ys
      → ((z : X) → filter (ties lower z) ys ≡ filter (ties lower z) xs) → ys ≡ firsts turns xs ++ filter (λ x. is_no_turn (turn x)) xs
  sorted_are xs ys good fine rising stable =
      let none : filter (λ x. is_no_turn (turn x)) ys ≡ filter (λ x. is_no_turn (turn x)) xs =
      same_if_some (λ x. is_no_turn (turn x)) xs ys (λ z e.
      agree_on (λ x. is_no_turn (turn x)) (ties lower z) ys (all_of (λ x. IsGood turns (turn x)) (λ x. is_no_turn (turn x) ≡ ties lower z x) (λ x g. ties_none z x e g) ys fine)
      ∙ stable z ∙ sym (agree_on (λ x. is_no_turn (turn x)) (ties lower z) xs (all_of (λ x. IsGood turns (turn x)) (λ x. is_no_turn (turn x) ≡ ties lower z x) (λ x g. ties_none z x e g) xs good))) in
      are_buckets ys fine rising ∙ ap (λ l. l ++ filter (λ x. is_no_turn (turn x)) ys) (same_firsts turns (omega arith)) ∙ ap (λ l. firsts turns xs ++ l) none
    where
      same_turn : (n : ℕ) → n < top → filter (λ x. is_turn n (turn x)) ys ≡ filter (λ x. is_turn n (turn x)) xs
      same_turn n low =
          same_if_some (λ x. is_turn n (turn x)) xs ys (λ z e.
          filter_agree (λ x. is_turn n (turn x)) (ties lower z) (λ x. ties_turn n low z x e) ys ∙ stable z ∙ sym (filter_agree (λ x. is_turn n (turn x)) (ties lower z) (λ x. ties_turn n low z x e) xs))

      same_firsts : (n : ℕ) → n ≤ turns → firsts n ys ≡ firsts n xs
      same_firsts zero le = refl
      same_firsts (suc n) le =
          let f = λ (l : List X) (k : ℕ). filter (λ (x : X). is_turn k (turn x)) l in
          ap (flat_map (f ys)) (one_more n) ∙ flat_map-append (f ys) (range_with_len 1 n) (suc n ∷ [])
          ∙ ap (λ l. l ++ (f ys (suc n) ++ [])) (same_firsts n (omega arith)) ∙ ap (λ l. firsts n xs ++ (l ++ [])) (same_turn (suc n) (omega arith))
          ∙ sym (flat_map-append (f xs) (range_with_len 1 n) (suc n ∷ [])) ∙ sym (ap (flat_map (f xs)) (one_more n))
