-- In how many places of a list a container stands.
use Rattle.std.proofs.Common.{◌≡◌, ◌≤◌, ◌+◌, ℕ, suc, Bool, true, false, cond, List, [], ◌∷◌, length, refl, sym, ap, ◌∙◌, arith}
use Rattle.std.specs.Prelude.{◌||◌, filter}
use Rattle.std.specs.List.{list_any, IsDistinct, AllByRecursion}
use Rattle.std.specs.Str.{bytes_eq}
use denote.Ref.{Bor}
use Rattle.std.proofs.lemmas.Bool.{false≢true}
use Rattle.std.proofs.lemmas.Slice.Eq.{bytes_eq-Decides}
use Rattle.std.proofs.lemmas.Cmp.{nat_list_eq_equiv}
use Rattle.crp_yard.specs.Inventory.{times, is_among}
use Rattle.crp_yard.proofs.ListingSteps.{times_absent}

pub same : (a b : List ℕ) → bytes_eq a b ≡ true → a ≡ b
same a b e = (bytes_eq-Decides a b).0 e

pub itself : (a : List ℕ) → bytes_eq a a ≡ true
itself a = (bytes_eq-Decides a a).1 refl

pub turned : (a b : List ℕ) → bytes_eq a b ≡ bytes_eq b a
turned a b = nat_list_eq_equiv.symm a b

pub any-turned : (c : List ℕ) (xs : List (Bor (List ℕ))) → list_any (λ x. bytes_eq x.now c) xs ≡ list_any (λ x. bytes_eq c x.now) xs
any-turned c [] = refl
any-turned c (x ∷ xs) = rw (turned x.now c, any-turned c xs) refl

abbrev pub one_if : Bool → ℕ
one_if b = cond b 1 0

pub some_times : (c : List ℕ) (xs : List (List ℕ)) → is_among xs c ≡ true → 1 ≤ times c xs
some_times c [] e = absurd (false≢true e)
some_times c (x ∷ xs) e = by (bytes_eq c x) e (some_times c xs)
  where
    by : (b : Bool) → (b || is_among xs c) ≡ true → (is_among xs c ≡ true → 1 ≤ times c xs) → 1 ≤ one_if b + times c xs
    by true h later = omega arith
    by false h later = omega (arith, later h)

pub among : (c : List ℕ) (xs : List (List ℕ)) → 1 ≤ times c xs → is_among xs c ≡ true
among c xs h = by (is_among xs c) refl
  where
    by : (b : Bool) → is_among xs c ≡ b → b ≡ true
    by true _ = refl
    by false e = absurd (omega (arith, times_absent c xs e))

pub here : (x : List ℕ) (xs : List (List ℕ)) → 1 ≤ times x (x ∷ xs)
here x xs = rw (itself x) (omega arith)

-- a filter keeps each place of what passes, and none of what does not
times-cond : (c x : List ℕ) (b : Bool) (xs : List (List ℕ)) → times c (cond b (x ∷ xs) xs) ≡ cond b (one_if (bytes_eq c x) + times c xs) (times c xs)
times-cond c x true xs = refl
times-cond c x false xs = refl

filter_step : (q p b : Bool) (n m : ℕ) → (b ≡ true → q ≡ p) → n ≡ cond p m 0 → cond q (one_if b + n) n ≡ cond p (one_if b + m) 0
filter_step true true b n m h e = ap (λ k. one_if b + k) e
filter_step true false true n m h e = absurd (false≢true (sym (h refl)))
filter_step true false false n m h e = omega (arith, e)
filter_step false true true n m h e = absurd (false≢true (h refl))
filter_step false true false n m h e = omega (arith, e)
filter_step false false b n m h e = e

pub times-filter : (p : List ℕ → Bool) (c : List ℕ) (xs : List (List ℕ)) → times c (filter p xs) ≡ cond (p c) (times c xs) 0
times-filter p c [] = by (p c)
  where
    by : (b : Bool) → ◌≡◌ {A = ℕ} 0 (cond b 0 0)
    by true = refl
    by false = refl
times-filter p c (x ∷ xs) =
    times-cond c x (p x) (filter p xs)
    ∙ filter_step (p x) (p c) (bytes_eq c x) (times c (filter p xs)) (times c xs) (λ e. ap p (sym (same c x e))) (times-filter p c xs)

-- a list without doubles has each in one place at most
apart_none : (x : List ℕ) (xs : List (List ℕ)) → AllByRecursion (λ y. bytes_eq x y ≡ false) xs → times x xs ≡ 0
apart_none x [] d = refl
apart_none x (y ∷ xs) d = rw d.0 (omega (arith, apart_none x xs d.1))

pub once : (xs : List (List ℕ)) → IsDistinct bytes_eq xs → (c : List ℕ) → times c xs ≤ 1
unfolding Rattle.std.specs.List.IsDistinct
once [] d c = omega arith
once (x ∷ xs) d c = by (bytes_eq c x) refl (apart_none x xs d.0) (once xs d.1 c)
  where
    by : (b : Bool) → bytes_eq c x ≡ b → times x xs ≡ 0 → times c xs ≤ 1 → one_if b + times c xs ≤ 1
    by true e none rest =
        let is : c ≡ x = same c x e in
        let zero_here : times c xs ≡ 0 = ap (λ k. times k xs) is ∙ none in
        omega (arith, zero_here)
    by false e none rest = omega (arith, rest)

-- the list without the first place of a container
abbrev without : List ℕ → List (List ℕ) → List (List ℕ)
without c [] = []
without c (x ∷ xs) = cond (bytes_eq c x) xs (x ∷ without c xs)

times-without : (c d : List ℕ) (xs : List (List ℕ)) → 1 ≤ times c xs → times d (without c xs) + one_if (bytes_eq d c) ≡ times d xs
times-without c d [] some = absurd (omega arith)
times-without c d (x ∷ xs) some = by (bytes_eq c x) refl some (times-without c d xs)
  where
    by : (b : Bool) → bytes_eq c x ≡ b → 1 ≤ one_if b + times c xs → (1 ≤ times c xs → times d (without c xs) + one_if (bytes_eq d c) ≡ times d xs)
        → times d (cond b xs (x ∷ without c xs)) + one_if (bytes_eq d c) ≡ one_if (bytes_eq d x) + times d xs
    by true e some later = let is : bytes_eq d c ≡ bytes_eq d x = ap (bytes_eq d) (same c x e) in rw is (omega arith)
    by false e some later = omega (arith, later (omega (arith, some)))

length-without : (c : List ℕ) (xs : List (List ℕ)) → 1 ≤ times c xs → length xs ≡ suc (length (without c xs))
length-without c [] some = absurd (omega arith)
length-without c (x ∷ xs) some = by (bytes_eq c x) some (length-without c xs)
  where
    by : (b : Bool) → 1 ≤ one_if b + times c xs → (1 ≤ times c xs → length xs ≡ suc (length (without c xs))) → suc (length xs) ≡ suc (length (cond b xs (x ∷ without c xs)))
    by true h later = refl
    by false h later = ap suc (later (omega (arith, h)))

-- lists with the same containers, each as often, are of one length
pub one_length : (xs ys : List (List ℕ)) → ((c : List ℕ) → times c xs ≡ times c ys) → length xs ≡ length ys
one_length [] [] h = refl
one_length [] (y ∷ ys) h = absurd (omega (arith, h y, here y ys))
one_length (x ∷ xs) ys h =
    let some : 1 ≤ times x ys = omega (arith, h x, here x xs) in
    ap suc (one_length xs (without x ys) (λ c. omega (arith, h c, times-without x c ys some))) ∙ sym (length-without x ys some)

-- filters by tests that agree on what stands in the list
pub filter-same : (p q : List ℕ → Bool) (xs : List (List ℕ)) → ((c : List ℕ) → 1 ≤ times c xs → p c ≡ q c) → filter p xs ≡ filter q xs
filter-same p q [] h = refl
filter-same p q (x ∷ xs) h =
    let first : p x ≡ q x = h x (here x xs) in
    let rest : filter p xs ≡ filter q xs = filter-same p q xs (λ c some. h c (omega (arith, some))) in
    rw (first, rest) refl
