-- What stands at a place of a list that is pushed, cut or mapped.
use Prim.Native.Nat.{zero}
use Rattle.std.proofs.Common.{◌≡◌, ℕ, suc, ◌<◌, ◌⊎◌, Bool, true, false, List, [], ◌∷◌, ◌++◌, map, flat_map, take, fold, length, slice_get, Some, refl, sym, ap, ◌∙◌, inl, inr, ⊎_elim, arith}
use Rattle.std.specs.Prelude.{◌||◌}
use Rattle.std.specs.List.{list_any}
use Rattle.std.proofs.lemmas.Bool.{false≢true, or_cases}
use Rattle.std.proofs.lemmas.List.Folds.{list_any-append}

pub at_seam : {X : Type 0} (xs : List X) (x : X) (n : ℕ) → length xs ≡ n → slice_get (xs ++ x ∷ []) n ≡ Some x
at_seam [] x n e = rw (← e) refl
at_seam (y ∷ xs) x zero e = absurd (omega arith)
at_seam (y ∷ xs) x (suc n) e = at_seam xs x n (omega arith)

pub in_front : {X : Type 0} (xs ys : List X) (k : ℕ) (x : X) → slice_get xs k ≡ Some x → slice_get (xs ++ ys) k ≡ Some x
in_front [] ys k x e = cc
in_front (y ∷ xs) ys zero x e = e
in_front (y ∷ xs) ys (suc k) x e = in_front xs ys k x e

pub at_end : {X : Type 0} (xs : List X) (x : X) (k : ℕ) (y : X) → slice_get (xs ++ x ∷ []) k ≡ Some y → (slice_get xs k ≡ Some y) ⊎ ((k ≡ length xs) × (x ≡ y))
at_end [] x zero y e = inr (refl, (cc))
at_end [] x (suc k) y e = absurd (cc)
at_end (z ∷ xs) x zero y e = inl e
at_end (z ∷ xs) x (suc k) y e = ⊎_elim (λ h. inl h) (λ h. inr (ap suc h.0, h.1)) (at_end xs x k y e)

pub of_mapped : {X Y : Type 0} (f : X → Y) (xs : List X) (k : ℕ) (y : Y) → slice_get (map f xs) k ≡ Some y → (x : X) × (slice_get xs k ≡ Some x) × (f x ≡ y)
of_mapped f [] k y e = absurd (cc)
of_mapped f (x ∷ xs) zero y e = (x, refl, (cc))
of_mapped f (x ∷ xs) (suc k) y e = of_mapped f xs k y e

pub in_mapped : {X Y : Type 0} (f : X → Y) (xs : List X) (k : ℕ) (x : X) → slice_get xs k ≡ Some x → slice_get (map f xs) k ≡ Some (f x)
in_mapped f [] k x e = absurd (cc)
in_mapped f (y ∷ xs) zero x e = let same : y ≡ x = cc in ap (λ z. Some (f z)) same
in_mapped f (y ∷ xs) (suc k) x e = in_mapped f xs k x e

pub of_taken : {X : Type 0} (xs : List X) (n k : ℕ) (x : X) → slice_get (take n xs) k ≡ Some x → (k < n) × (slice_get xs k ≡ Some x)
of_taken [] zero k x e = absurd (cc)
of_taken [] (suc n) k x e = absurd (cc)
of_taken (y ∷ xs) zero k x e = absurd (cc)
of_taken (y ∷ xs) (suc n) zero x e = (omega arith, e)
of_taken (y ∷ xs) (suc n) (suc k) x e = let rest = of_taken xs n k x e in (omega (arith, rest.0), rest.1)

pub in_taken : {X : Type 0} (xs : List X) (n k : ℕ) (x : X) → k < n → slice_get xs k ≡ Some x → slice_get (take n xs) k ≡ Some x
in_taken [] n k x below e = absurd (cc)
in_taken (y ∷ xs) zero k x below e = absurd (omega arith)
in_taken (y ∷ xs) (suc n) zero x below e = e
in_taken (y ∷ xs) (suc n) (suc k) x below e = in_taken xs n k x (omega arith) e

pub fold_joined : {X Y : Type 0} (f : Y → X → Y) (y : Y) (xs zs : List X) → fold f y (xs ++ zs) ≡ fold f (fold f y xs) zs
fold_joined f y [] zs = refl
fold_joined f y (x ∷ xs) zs = fold_joined f (f y x) xs zs

-- some element passes the test
pub any_at : {X : Type 0} (test : X → Bool) (xs : List X) → list_any test xs ≡ true → (k : ℕ) × (x : X) × (slice_get xs k ≡ Some x) × (test x ≡ true)
any_at test [] h = absurd (false≢true h)
any_at test (x ∷ xs) h = by (test x) refl (any_at test xs)
  where
    by : (b : Bool) → test x ≡ b → (list_any test xs ≡ true → (k : ℕ) × (y : _) × (slice_get xs k ≡ Some y) × (test y ≡ true)) → (k : ℕ) × (y : _) × (slice_get (x ∷ xs) k ≡ Some y) × (test y ≡ true)
    by true e rest = (0, x, refl, e)
    by false e rest = let found = rest (sym (ap (λ b. b || list_any test xs) e) ∙ h) in (suc found.0, found.1, found.2, found.3)

or_true : (b : Bool) → (b || true) ≡ true
or_true true = refl
or_true false = refl

pub any_from : {X : Type 0} (test : X → Bool) (xs : List X) (k : ℕ) (x : X) → slice_get xs k ≡ Some x → test x ≡ true → list_any test xs ≡ true
any_from test [] k x at e = absurd (cc)
any_from test (y ∷ xs) zero x at e = let same : y ≡ x = cc in let here : test y ≡ true = ap test same ∙ e in rw here refl
any_from test (y ∷ xs) (suc k) x at e = by (test y) (any_from test xs k x at e)
  where
    by : (b : Bool) → list_any test xs ≡ true → (b || list_any test xs) ≡ true
    by true h = refl
    by false h = h

-- an element of one of the lists passes the test
pub any_in_flat : {X Y : Type 0} (test : Y → Bool) (f : X → List Y) (xs : List X) (k : ℕ) (x : X) → slice_get xs k ≡ Some x → list_any test (f x) ≡ true → list_any test (flat_map f xs) ≡ true
any_in_flat test f [] k x at e = absurd (cc)
any_in_flat test f (y ∷ xs) zero x at e =
    let same : y ≡ x = cc in
    let here : list_any test (f y) ≡ true = ap (λ z. list_any test (f z)) same ∙ e in
    list_any-append test (f y) (flat_map f xs) ∙ ap (λ b. b || list_any test (flat_map f xs)) here
any_in_flat test f (y ∷ xs) (suc k) x at e = list_any-append test (f y) (flat_map f xs) ∙ ap (λ b. list_any test (f y) || b) (any_in_flat test f xs k x at e) ∙ or_true (list_any test (f y))

pub any_of_flat : {X Y : Type 0} (test : Y → Bool) (f : X → List Y) (xs : List X) → list_any test (flat_map f xs) ≡ true → (k : ℕ) × (x : X) × (slice_get xs k ≡ Some x) × (list_any test (f x) ≡ true)
any_of_flat test f [] e = absurd (false≢true e)
any_of_flat test f (y ∷ xs) e =
    ⊎_elim (λ here. (0, y, refl, here)) (λ rest. let found = any_of_flat test f xs rest in (suc found.0, found.1, found.2, found.3))
    (or_cases (list_any test (f y)) (list_any test (flat_map f xs)) (sym (list_any-append test (f y) (flat_map f xs)) ∙ e))

-- tests that pass together are equal
pub same_test : (a b : Bool) → (a ≡ true → b ≡ true) → (b ≡ true → a ≡ true) → a ≡ b
same_test true b there back = sym (there refl)
same_test false true there back = back refl
same_test false false there back = refl
