-- Lists, by rising numbers, of all of which something holds.
use Prim.Native.Nat.{zero}
use Rattle.std.proofs.Common.{◌≡◌, ℕ, suc, ◌<◌, ◌⊎◌, List, [], ◌∷◌, ◌++◌, length, append-nil, slice_get, Option, Some, None, refl, sym, ap, subst, ◌∙◌, inl, inr, ⊎_elim, arith}
use Rattle.std.specs.Prelude.{option_to_list}
use Rattle.std.proofs.lemmas.Bool.{cases_eq}
use Rattle.std.proofs.lemmas.Option.{slice_get_within}
use Rattle.crp_movins.specs.ByPlaces.{HasAllRising}

at_seam : {X : Type 0} (xs : List X) (x : X) → slice_get (xs ++ x ∷ []) (length xs) ≡ Some x
at_seam [] x = refl
at_seam (y ∷ xs) x = at_seam xs x

in_front : {X : Type 0} (xs ys : List X) (k : ℕ) (x : X) → slice_get xs k ≡ Some x → slice_get (xs ++ ys) k ≡ Some x
in_front [] ys k x e = absurd (cc)
in_front (y ∷ xs) ys zero x e = e
in_front (y ∷ xs) ys (suc k) x e = in_front xs ys k x e

at_end : {X : Type 0} (xs : List X) (x : X) (k : ℕ) (y : X) → slice_get (xs ++ x ∷ []) k ≡ Some y → (slice_get xs k ≡ Some y) ⊎ ((k ≡ length xs) × (x ≡ y))
at_end [] x zero y e = inr (refl, (cc))
at_end [] x (suc k) y e = absurd (cc)
at_end (z ∷ xs) x zero y e = inl e
at_end (z ∷ xs) x (suc k) y e = ⊎_elim (λ h. inl h) (λ h. inr (ap suc h.0, h.1)) (at_end xs x k y e)

module _ (X : Type 0) (number : X → ℕ) where
  abbrev IsRising : List X → Type 0
  IsRising xs = (k l : ℕ) (first second : X) → k < l → slice_get xs k ≡ Some first → slice_get xs l ≡ Some second → number first < number second

  abbrev IsIn : List X → X → Type 0
  IsIn xs x = (k : ℕ) × (slice_get xs k ≡ Some x)

  -- rising lists of the same are equal
  rising_tail : (x : X) (xs : List X) → IsRising (x ∷ xs) → IsRising xs
  rising_tail x xs rising k l first second below a b = rising (suc k) (suc l) first second (omega arith) a b

  first_or_later : (x y : X) (ys : List X) → IsRising (y ∷ ys) → IsIn (y ∷ ys) x → (y ≡ x) ⊎ ((number y < number x) × IsIn ys x)
  first_or_later x y ys rising (zero, at) = inl (cc)
  first_or_later x y ys rising (suc k, at) = inr (rising 0 (suc k) y x (omega arith) refl at, (k, at))

  same_heads : (x y : X) (xs ys : List X) → IsRising (x ∷ xs) → IsRising (y ∷ ys) → IsIn (y ∷ ys) x → IsIn (x ∷ xs) y → x ≡ y
  same_heads x y xs ys rising_x rising_y there back =
      ⊎_elim (λ e. sym e) (λ h. ⊎_elim (λ e. e) (λ k. absurd (omega (arith, h.0, k.0))) (first_or_later y x xs rising_x back)) (first_or_later x y ys rising_y there)

  later_in : (x y : X) (xs ys : List X) → IsRising (x ∷ xs) → IsRising (y ∷ ys) → x ≡ y → ((z : X) → IsIn (x ∷ xs) z → IsIn (y ∷ ys) z) → (z : X) → IsIn xs z → IsIn ys z
  later_in x y xs ys rising_x rising_y same each z (k, at) =
      let above : number x < number z = rising_x 0 (suc k) x z (omega arith) refl at in
      ⊎_elim (λ e. absurd (omega (arith, ap number e, ap number same, above))) (λ h. h.1) (first_or_later z y ys rising_y (each z (suc k, at)))

  same_rising : (xs ys : List X) → IsRising xs → IsRising ys → ((z : X) → IsIn xs z → IsIn ys z) → ((z : X) → IsIn ys z → IsIn xs z) → xs ≡ ys
  same_rising [] [] rising_x rising_y there back = refl
  same_rising [] (y ∷ ys) rising_x rising_y there back = absurd (cc (back y (0, refl)).1)
  same_rising (x ∷ xs) [] rising_x rising_y there back = absurd (cc (there x (0, refl)).1)
  same_rising (x ∷ xs) (y ∷ ys) rising_x rising_y there back =
      let same = same_heads x y xs ys rising_x rising_y (there x (0, refl)) (back y (0, refl)) in
      let rest = same_rising xs ys (rising_tail x xs rising_x) (rising_tail y ys rising_y) (later_in x y xs ys rising_x rising_y same there) (later_in y x ys xs rising_y rising_x (sym same) back) in
      λ i. same i ∷ rest i

  pub one_list : (Holds : X → Type 0) (xs ys : List X) → HasAllRising X number Holds xs → HasAllRising X number Holds ys → xs ≡ ys
  one_list Holds xs ys these those =
      same_rising xs ys these.rising those.rising (λ z h. those.all z (these.each h.0 z h.1)) (λ z h. these.all z (those.each h.0 z h.1))

  -- what stands at the numbers below this one
  abbrev pub all_below : (ℕ → Option X) → ℕ → List X
  all_below at zero = []
  all_below at (suc n) = all_below at n ++ option_to_list (at n)

  abbrev StandsBelow : (ℕ → Option X) → ℕ → X → Type 0
  StandsBelow at n x = (number x < n) × (at (number x) ≡ Some x)

  one_more : (at : ℕ → Option X) (n : ℕ) (o : Option X) (xs : List X) → ((k : ℕ) (x : X) → at k ≡ Some x → number x ≡ k) → at n ≡ o
      → HasAllRising X number (StandsBelow at n) xs → HasAllRising X number (StandsBelow at (suc n)) (xs ++ option_to_list o)
  one_more at n None xs own here h = subst (HasAllRising X number (StandsBelow at (suc n))) (sym (append-nil xs)) (record {
    rising = h.rising;
    each = λ k x e. let stands = h.each k x e in (omega (arith, stands.0), stands.1);
    all = λ x stands. elim (cases_eq (number x) n) [
      | inl e ↦ absurd (cc (sym stands.1 ∙ ap at e ∙ here))
      | inr ne ↦ h.all x (omega (arith, stands.0), stands.1)
    ];
  })
  one_more at n (Some last) xs own here h = record {
    rising = λ k l first second below a b. elim (at_end xs last l second b) [
      | inl before ↦ elim (at_end xs last k first a) [
        | inl e ↦ h.rising k l first second below e before
        | inr e ↦ absurd (omega (arith, e.0, slice_get_within xs l second before))
      ]
      | inr end ↦ elim (at_end xs last k first a) [
        | inl e ↦ omega (arith, own n last here, ap number end.1, (h.each k first e).0)
        | inr e ↦ absurd (omega (arith, e.0, end.0))
      ]
    ];
    each = λ k x e. elim (at_end xs last k x e) [
      | inl before ↦ let stands = h.each k x before in (omega (arith, stands.0), stands.1)
      | inr end ↦ subst (StandsBelow at (suc n)) end.1 (omega (arith, own n last here), ap at (own n last here) ∙ here)
    ];
    all = λ x stands. elim (cases_eq (number x) n) [
      | inl e ↦ let same : last ≡ x = cc (sym here ∙ ap at (sym e) ∙ stands.1) in (length xs, at_seam xs last ∙ ap Some same)
      | inr ne ↦ let found = h.all x (omega (arith, stands.0), stands.1) in (found.0, in_front xs (last ∷ []) found.0 x found.1)
    ];
  }

  below : (at : ℕ → Option X) (n : ℕ) → ((k : ℕ) (x : X) → at k ≡ Some x → number x ≡ k) → HasAllRising X number (StandsBelow at n) (all_below at n)
  below at zero own = record { rising = λ k l first second under a b. absurd (cc); each = λ k x e. absurd (cc); all = λ x stands. absurd (omega (arith, stands.0)) }
  below at (suc n) own = one_more at n (at n) (all_below at n) own refl (below at n own)

  -- where all of which it holds stand at their numbers, below some one
  pub has_all : (Holds : X → Type 0) (at : ℕ → Option X) (n : ℕ) → ((k : ℕ) (x : X) → at k ≡ Some x → (number x ≡ k) × Holds x) → ((x : X) → Holds x → StandsBelow at n x)
      → HasAllRising X number Holds (all_below at n)
  has_all Holds at n means given =
      let all = below at n (λ k x e. (means k x e).0) in
      record {
        rising = all.rising;
        each = λ k x e. let stands = all.each k x e in (means (number x) x stands.1).1;
        all = λ x h. all.all x (given x h);
      }
