-- Facts of each element of a list, by places and by recursion, and look-ups in lists of pairs.
use Prim.Native.Nat.{zero}
use Rattle.std.proofs.Common.{◌≡◌, ◌<◌, ℕ, suc, Bool, true, false, cond, List, [], ◌∷◌, ◌++◌, map, take, length, get_or, All, Some, None, is_some, slice_get, refl, sym, ap, ◌∙◌, subst, arith}
use Rattle.std.specs.Prelude.{◌||◌}
use Rattle.std.specs.List.{AllByRecursion, IsDistinct, find, list_any}
use Rattle.std.specs.Map.{lookup}
use Rattle.std.specs.Cmp.{IsEquivalence}

pub all_of : {X : Type 0} (P : X → Type 0) (xs : List X) → AllByRecursion P xs → (k : ℕ) (d : X) → k < length xs → P (get_or xs k d)
all_of P [] h k d within = absurd (omega arith)
all_of P (x ∷ xs) h zero d within = h.0
all_of P (x ∷ xs) h (suc k) d within = all_of P xs h.1 k d (omega arith)

pub each_of : {X : Type 0} (P : X → Type 0) (xs : List X) → All P xs → AllByRecursion P xs
each_of P [] h = tt
each_of P (x ∷ xs) h = (h 0 x (omega arith), each_of P xs (λ k d within. h (suc k) d (omega arith)))

pub each_push : {X : Type 0} (P : X → Type 0) (xs : List X) (x : X) → AllByRecursion P xs → P x → AllByRecursion P (xs ++ x ∷ [])
each_push P [] x h p = (p, tt)
each_push P (y ∷ xs) x h p = (h.0, each_push P xs x h.1 p)

pub member : {X : Type 0} (P : X → Type 0) (xs : List X) (i : ℕ) (x : X) → AllByRecursion P xs → slice_get xs i ≡ Some x → P x
member P [] i x h e = cc
member P (y ∷ xs) zero x h e = let same : y ≡ x = cc in subst P same h.0
member P (y ∷ xs) (suc i) x h e = member P xs i x h.1 e

pub unmapped : {X Y : Type 0} (P : Y → Type 0) (f : X → Y) (xs : List X) → AllByRecursion P (map f xs) → AllByRecursion (λ x. P (f x)) xs
unmapped P f [] h = tt
unmapped P f (x ∷ xs) h = (h.0, unmapped P f xs h.1)

pub each_at : {X : Type 0} (P : X → Type 0) (xs : List X) → ((i : ℕ) (x : X) → slice_get xs i ≡ Some x → P x) → AllByRecursion P xs
each_at P [] h = tt
each_at P (x ∷ xs) h = (h 0 x refl, each_at P xs (λ i y e. h (suc i) y e))

-- what is found passes the test, and what holds of each element holds of it
pub found_in : {X : Type 0} (P : X → Type 0) (test : X → Bool) (xs : List X) (x : X) → AllByRecursion P xs → find test xs ≡ Some x → P x × (test x ≡ true)
found_in P test [] x h e = cc
found_in P test (y ∷ xs) x h e = by (test y) refl (λ rest. found_in P test xs x h.1 rest)
  where
    by : (b : Bool) → test y ≡ b → (find test xs ≡ Some x → P x × (test x ≡ true)) → P x × (test x ≡ true)
    by true t rest =
        let first : Some y ≡ Some x = sym (ap (λ b. cond b (Some y) (find test xs)) t) ∙ e in
        let same : y ≡ x = cc first in
        (subst P same h.0, ap test (sym same) ∙ t)
    by false t rest = rest (sym (ap (λ b. cond b (Some y) (find test xs)) t) ∙ e)

module _ {K : Type 0} (eq : K → K → Bool) (laws : IsEquivalence eq) where
  turned : (a b : K) → eq a b ≡ false → eq b a ≡ false
  turned a b e = sym (laws.symm a b) ∙ e

  -- none of those before is equal to one of distinct keys
  pub not_before : {X : Type 0} (f : X → K) (xs : List X) (x : X) (ys : List X) → IsDistinct eq (map f (xs ++ x ∷ ys)) → find (λ y. eq (f x) (f y)) xs ≡ None
  unfolding Rattle.std.specs.List.IsDistinct
  not_before f [] x ys d = refl
  not_before f (z ∷ xs) x ys d =
      let apart : eq (f z) (f x) ≡ false = in_middle f xs x ys (λ k. eq (f z) k ≡ false) d.0 in
      rw (turned (f z) (f x) apart) (not_before f xs x ys d.1)
    where
      in_middle : {Y : Type 0} (g : Y → K) (zs : List Y) (a : Y) (bs : List Y) (P : K → Type 0) → AllByRecursion P (map g (zs ++ a ∷ bs)) → P (g a)
      in_middle g [] a bs P h = h.0
      in_middle g (b ∷ zs) a bs P h = in_middle g zs a bs P h.1

  pub not_yet : {V : Type 0} (es : List (K × V)) (i : ℕ) (e : K × V) → IsDistinct eq (map (λ e. e.0) es) → slice_get es i ≡ Some e → is_some (lookup (eq e.0) (take i es)) ≡ false
  unfolding Rattle.std.specs.List.IsDistinct
  not_yet [] i e d at = cc
  not_yet (y ∷ es) zero e d at = refl
  not_yet (y ∷ es) (suc i) e d at =
      let apart : eq y.0 e.0 ≡ false = member (λ f. eq y.0 f.0 ≡ false) es i e (unmapped (λ k. eq y.0 k ≡ false) (λ f. f.0) es d.0) at in
      rw (turned y.0 e.0 apart) (not_yet es i e d.1 at)

  pub looked_up : {V : Type 0} (es : List (K × V)) (i : ℕ) (e : K × V) → ((k : K) → eq k k ≡ true) → IsDistinct eq (map (λ e. e.0) es) → slice_get es i ≡ Some e → lookup (eq e.0) es ≡ Some e.1
  unfolding Rattle.std.specs.List.IsDistinct
  looked_up [] i e self d at = cc
  looked_up (y ∷ es) zero e self d at = let same : y ≡ e = cc in rw (same, self e.0) refl
  looked_up (y ∷ es) (suc i) e self d at =
      let apart : eq y.0 e.0 ≡ false = member (λ f. eq y.0 f.0 ≡ false) es i e (unmapped (λ k. eq y.0 k ≡ false) (λ f. f.0) es d.0) at in
      rw (turned y.0 e.0 apart) (looked_up es i e self d.1 at)

pub looked : {K V : Type 0} (test : K → Bool) (es : List (K × V)) → is_some (lookup test es) ≡ list_any test (map (λ e. e.0) es)
looked test [] = refl
looked test (e ∷ es) = by (test e.0) (looked test es)
  where
    by : (b : Bool) → is_some (lookup test es) ≡ list_any test (map (λ e. e.0) es) → is_some (cond b (Some e.1) (lookup test es)) ≡ (b || list_any test (map (λ e. e.0) es))
    by true h = refl
    by false h = h
