-- The count of containers that would block again, under moves: it grows with the stacks.
use Rattle.std.proofs.Common.{◌≡◌, ℕ, zero, suc, ◌+◌, ◌≤◌, Bool, true, false, ◌==◌, ◌||◌, ◌&&◌, nat_le, nat_lt, List, [], ◌∷◌, ◌++◌, length, map, Some, slice_get, slice_set, sum_by, count_by, refl, sym, ap, ◌∙◌, subst, ⊎_elim, arith, length-append, append-nil}
use Rattle.std.specs.Bool.{⊤}
use Rattle.std.specs.List.{list_any}
use Rattle.std.proofs.lemmas.Option.{same_Some}
use Rattle.std.proofs.lemmas.Bool.{cases_Bool, or_cases, or_left, or_right, and_parts, and_from, leb-true, le-leb}
use Rattle.std.proofs.lemmas.List.Sums.{sum_by-cons, sum_by-append}
use Rattle.crp_plan.specs.Rows.{holds, occurrences, above, below}
use Rattle.crp_bounds.specs.Bounds.{holds_lower, has_no_place, stuck_from}
use Rattle.crp_plan.proofs.Lists.{one_if, times_not_held, occurrences-cons}
use Rattle.crp_plan.proofs.Buried.{above_held, below_held, below_not_held, above_absent, below_absent}

-- ys goes on from xs
abbrev pub IsPrefix : List ℕ → List ℕ → Type 0
IsPrefix xs ys = (rest : List ℕ) × (ys ≡ xs ++ rest)

-- each stack of the second list goes on from that of the first
abbrev pub Extends : List (List ℕ) → List (List ℕ) → Type 0
Extends [] [] = ⊤
Extends [] (y ∷ ys) = ⊥
Extends (x ∷ xs) [] = ⊥
Extends (x ∷ xs) (y ∷ ys) = IsPrefix x y × Extends xs ys

-- what is found in a list is found in a longer one
any_append : (p : ℕ → Bool) (xs ys : List ℕ) → list_any p xs ≡ true → list_any p (xs ++ ys) ≡ true
any_append p [] ys h = cc
any_append p (x ∷ xs) ys h =
    ⊎_elim (λ e. or_left (p x) (list_any p (xs ++ ys)) e) (λ e. or_right (p x) (list_any p (xs ++ ys)) (any_append p xs ys e)) (or_cases (p x) (list_any p xs) h)

-- the same of a list that goes on
pub any_prefix : (p : ℕ → Bool) (xs ys : List ℕ) → IsPrefix xs ys → list_any p xs ≡ true → list_any p ys ≡ true
any_prefix p xs ys pre h = ap (list_any p) pre.1 ∙ any_append p xs pre.0 h

-- a list that goes on is not shorter
pub length_prefix : (xs ys : List ℕ) → IsPrefix xs ys → length xs ≤ length ys
length_prefix xs ys pre = omega (arith, ap length pre.1, length-append xs pre.0)

-- the test of one row: full, or k's own, or with a lower one
abbrev pub is_no_place : ℕ → ℕ → ℕ → List ℕ → ℕ → Bool
is_no_place ordered k height stack c = nat_le height (length stack) || (holds k stack || holds_lower ordered c stack)

-- a stack that grows is no place still
pub no_place_row : (ordered k height : ℕ) (xs ys : List ℕ) (c : ℕ) → IsPrefix xs ys → is_no_place ordered k height xs c ≡ true → is_no_place ordered k height ys c ≡ true
no_place_row ordered k height xs ys c pre h =
    ⊎_elim
    (λ e. or_left (nat_le height (length ys)) (holds k ys || holds_lower ordered c ys)
    (le-leb height (length ys) (omega (arith, leb-true height (length xs) e, length_prefix xs ys pre))))
    (λ e. or_right (nat_le height (length ys)) (holds k ys || holds_lower ordered c ys)
    (⊎_elim
    (λ f. or_left (holds k ys) (holds_lower ordered c ys) (any_prefix (λ y. y == k) xs ys pre f))
    (λ f. or_right (holds k ys) (holds_lower ordered c ys) (any_prefix (λ d. nat_le d ordered && nat_lt d c) xs ys pre f))
    (or_cases (holds k xs) (holds_lower ordered c xs) e)))
    (or_cases (nat_le height (length xs)) (holds k xs || holds_lower ordered c xs) h)

-- stacks that grow leave no place still
pub no_place_grows : (ordered k : ℕ) (heights : List ℕ) (xs ys : List (List ℕ)) (c : ℕ) → Extends xs ys →
    has_no_place ordered k heights xs c ≡ true → has_no_place ordered k heights ys c ≡ true
no_place_grows ordered k [] xs ys c ext h = refl
no_place_grows ordered k (h ∷ hs) [] [] c ext t = refl
no_place_grows ordered k (h ∷ hs) [] (y ∷ ys) c ext t = absurd ext
no_place_grows ordered k (h ∷ hs) (x ∷ xs) [] c ext t = absurd ext
no_place_grows ordered k (h ∷ hs) (x ∷ xs) (y ∷ ys) c ext t =
    let p = and_parts (is_no_place ordered k h x c) (has_no_place ordered k hs xs c) t in
    and_from (is_no_place ordered k h y c) (has_no_place ordered k hs ys c) (no_place_row ordered k h x y c ext.0 p.0) (no_place_grows ordered k hs xs ys c ext.1 p.1)

-- a stack that holds k may change and hold k still
pub no_place_kept : (ordered k : ℕ) (heights : List ℕ) (xs : List (List ℕ)) (i : ℕ) (rest : List ℕ) (c : ℕ) → holds k rest ≡ true →
    has_no_place ordered k heights xs c ≡ true → has_no_place ordered k heights (slice_set xs i rest) c ≡ true
no_place_kept ordered k [] xs i rest c held t = refl
no_place_kept ordered k (h ∷ hs) [] i rest c held t = refl
no_place_kept ordered k (h ∷ hs) (x ∷ xs) zero rest c held t =
    let p = and_parts (is_no_place ordered k h x c) (has_no_place ordered k hs xs c) t in
    and_from (is_no_place ordered k h rest c) (has_no_place ordered k hs xs c)
    (or_right (nat_le h (length rest)) (holds k rest || holds_lower ordered c rest) (or_left (holds k rest) (holds_lower ordered c rest) held)) p.1
no_place_kept ordered k (h ∷ hs) (x ∷ xs) (suc i) rest c held t =
    let p = and_parts (is_no_place ordered k h x c) (has_no_place ordered k hs xs c) t in
    and_from (is_no_place ordered k h x c) (has_no_place ordered k hs (slice_set xs i rest) c) p.0 (no_place_kept ordered k hs xs i rest c held p.1)

-- what the test says of one row
pub no_place_at : (ordered k : ℕ) (heights : List ℕ) (xs : List (List ℕ)) (i height : ℕ) (stack : List ℕ) (c : ℕ) →
    slice_get heights i ≡ Some height → slice_get xs i ≡ Some stack → has_no_place ordered k heights xs c ≡ true → is_no_place ordered k height stack c ≡ true
no_place_at ordered k [] xs i height stack c hi xi t = cc
no_place_at ordered k (h ∷ hs) [] i height stack c hi xi t = cc
no_place_at ordered k (h ∷ hs) (x ∷ xs) zero height stack c hi xi t =
    let a : h ≡ height = same_Some h height hi in let b : x ≡ stack = same_Some x stack xi in
    let p = and_parts (is_no_place ordered k h x c) (has_no_place ordered k hs xs c) t in
    ap (λ s. is_no_place ordered k height s c) (sym b) ∙ ap (λ n. is_no_place ordered k n x c) (sym a) ∙ p.0
no_place_at ordered k (h ∷ hs) (x ∷ xs) (suc i) height stack c hi xi t =
    let p = and_parts (is_no_place ordered k h x c) (has_no_place ordered k hs xs c) t in
    no_place_at ordered k hs xs i height stack c hi xi p.1

-- a test that passes more often counts more
pub one_if-mono : (a b : Bool) → (a ≡ true → b ≡ true) → one_if a ≤ one_if b
one_if-mono true b h = omega (arith, ap one_if (h refl))
one_if-mono false b h = omega arith

-- what counts at the head of a list
count-cons : (p : ℕ → Bool) (x : ℕ) (xs : List ℕ) → count_by p (x ∷ xs) ≡ one_if (p x) + count_by p xs
count-cons p x xs = sum_by-cons (λ y. one_if (p y)) x xs

-- what counts in two lists
pub count-append : (p : ℕ → Bool) (xs ys : List ℕ) → count_by p (xs ++ ys) ≡ count_by p xs + count_by p ys
count-append p xs ys = sum_by-append (λ y. one_if (p y)) xs ys

-- a test that passes more often counts more in a list
pub count_grows : (p q : ℕ → Bool) → ((c : ℕ) → p c ≡ true → q c ≡ true) → (xs : List ℕ) → count_by p xs ≤ count_by q xs
count_grows p q h [] = omega arith
count_grows p q h (x ∷ xs) = omega (arith, count-cons p x xs, count-cons q x xs, one_if-mono (p x) (q x) (h x), count_grows p q h xs)

-- the count over all stacks, of those above k that pass a test
abbrev pub counted : (ℕ → Bool) → ℕ → List (List ℕ) → ℕ
counted p k stacks = sum_by (λ stack. count_by p (above k stack)) stacks

-- the count over one stack more
pub counted-cons : (p : ℕ → Bool) (k : ℕ) (x : List ℕ) (xs : List (List ℕ)) → counted p k (x ∷ xs) ≡ count_by p (above k x) + counted p k xs
counted-cons p k x xs = sum_by-cons (λ stack. count_by p (above k stack)) x xs

-- more stands above k in a list that goes on
above_grows : (p : ℕ → Bool) (k : ℕ) (xs rest : List ℕ) → count_by p (above k xs) ≤ count_by p (above k (xs ++ rest))
above_grows p k xs rest =
    ⊎_elim
    (λ held. omega (arith, ap (count_by p) (above_held k xs rest held), count-append p (above k xs) rest))
    (λ none. omega (arith, ap (count_by p) (above_absent k xs (times_not_held k xs none))))
    (cases_Bool (holds k xs))

-- more counts in stacks that grow
pub counted_grows : (p q : ℕ → Bool) (k : ℕ) → ((c : ℕ) → p c ≡ true → q c ≡ true) → (xs ys : List (List ℕ)) → Extends xs ys → counted p k xs ≤ counted q k ys
counted_grows p q k h [] [] ext = omega arith
counted_grows p q k h [] (y ∷ ys) ext = absurd ext
counted_grows p q k h (x ∷ xs) [] ext = absurd ext
counted_grows p q k h (x ∷ xs) (y ∷ ys) ext =
    let pre = ext.0 in
    omega (
      arith,
      counted-cons p k x xs,
      counted-cons q k y ys,
      above_grows p k x pre.0,
      ap (λ l. count_by p (above k l)) pre.1,
      count_grows p q h (above k y),
      counted_grows p q k h xs ys ext.1,
    )

-- a list that goes on does so below k
below_prefix : (k : ℕ) (xs rest : List ℕ) → IsPrefix (below k xs) (below k (xs ++ rest))
below_prefix k xs rest =
    ⊎_elim
    (λ held. ([], below_held k xs rest held ∙ sym (append-nil (below k xs))))
    (λ none. (below k rest, below_not_held k xs rest none ∙ ap (λ l. l ++ below k rest) (sym (below_absent k xs (times_not_held k xs none)))))
    (cases_Bool (holds k xs))

-- stacks that grow do so below k
pub below_grows : (k : ℕ) (xs ys : List (List ℕ)) → Extends xs ys → Extends (map (below k) xs) (map (below k) ys)
below_grows k [] [] ext = tt
below_grows k [] (y ∷ ys) ext = absurd ext
below_grows k (x ∷ xs) [] ext = absurd ext
below_grows k (x ∷ xs) (y ∷ ys) ext =
    let pre = ext.0 in
    let P : List ℕ → Type 0 = λ l. IsPrefix (below k x) (below k l) in
    (subst P (sym pre.1) (below_prefix k x pre.0), below_grows k xs ys ext.1)

-- the key: higher stacks count at least as much
pub stuck_grows : (ordered : ℕ) (heights : List ℕ) (more : ℕ) (xs ys : List (List ℕ)) (k : ℕ) → Extends xs ys →
    stuck_from ordered heights more xs k ≤ stuck_from ordered heights more ys k
stuck_grows ordered heights zero xs ys k ext = omega arith
stuck_grows ordered heights (suc more) xs ys k ext =
    omega (
      arith,
      counted_grows (has_no_place ordered k heights xs) (has_no_place ordered k heights ys) k (λ c t. no_place_grows ordered k heights xs ys c ext t) xs ys ext,
      stuck_grows ordered heights more (map (below k) xs) (map (below k) ys) (suc k) (below_grows k xs ys ext),
    )

-- a list goes on from itself
pub prefix_self : (xs : List ℕ) → IsPrefix xs xs
prefix_self xs = ([], sym (append-nil xs))

-- stacks go on from themselves
pub extends_self : (xs : List (List ℕ)) → Extends xs xs
extends_self [] = tt
extends_self (x ∷ xs) = (prefix_self x, extends_self xs)

-- a stack with more on top goes on from itself
pub extends_put : (xs : List (List ℕ)) (i : ℕ) (x more : List ℕ) → slice_get xs i ≡ Some x → Extends xs (slice_set xs i (x ++ more))
extends_put [] i x more h = tt
extends_put (y ∷ ys) zero x more h = let e : y ≡ x = same_Some y x h in ((more, ap (λ l. l ++ more) (sym e)), extends_self ys)
extends_put (y ∷ ys) (suc i) x more h = (prefix_self y, extends_put ys i x more h)

-- cutting at k does not see a change above k
pub cut_put : (k : ℕ) (xs : List (List ℕ)) (i : ℕ) (x y : List ℕ) → slice_get xs i ≡ Some x → below k y ≡ below k x → map (below k) (slice_set xs i y) ≡ map (below k) xs
cut_put k [] i x y h e = refl
cut_put k (z ∷ zs) zero x y h e = let s : z ≡ x = same_Some z x h in ap (λ l. l ∷ map (below k) zs) (e ∙ ap (below k) (sym s))
cut_put k (z ∷ zs) (suc i) x y h e = ap (λ l. below k z ∷ l) (cut_put k zs i x y h e)

-- stacks without k
pub cut_absent : (k : ℕ) (xs : List (List ℕ)) → occurrences k xs ≡ 0 → map (below k) xs ≡ xs
cut_absent k [] h = refl
cut_absent k (x ∷ xs) h =
    let c = occurrences-cons k x xs in
    let a : below k x ≡ x = below_absent k x (omega (arith, c, h)) in
    let b : map (below k) xs ≡ xs = cut_absent k xs (omega (arith, c, h)) in
    cc

-- nothing counts above a rank that is not there
pub counted_absent : (p : ℕ → Bool) (k : ℕ) (xs : List (List ℕ)) → occurrences k xs ≡ 0 → counted p k xs ≡ 0
counted_absent p k [] h = refl
counted_absent p k (x ∷ xs) h =
    let c = occurrences-cons k x xs in
    omega (arith, counted-cons p k x xs, ap (count_by p) (above_absent k x (omega (arith, c, h))), counted_absent p k xs (omega (arith, c, h)))
