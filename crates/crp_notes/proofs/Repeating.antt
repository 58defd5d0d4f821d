-- What comes once more.
use Rattle.std.proofs.Common.{◌≡◌, ℕ, ◌+◌, ◌<◌, Bool, true, false, cond, eqb, ◌&&◌, ◌||◌, List, [], ◌∷◌, ◌++◌, length, map, filter, take, get_or, refl, sym, ap, subst, ◌∙◌, arith, tests, length-append, append-nil}
use Rattle.std.specs.Prelude.{nat_lt}
use Rattle.std.specs.List.{list_any}
use Rattle.std.specs.Str.{bytes_eq}
use Rattle.std.proofs.lemmas.Bool.{eqb-true}
use Rattle.std.proofs.lemmas.Cmp.{nat_eq_equiv, nat_list_eq_equiv}
use Rattle.std.proofs.lemmas.List.{take_more, map_push}
use Rattle.std.proofs.lemmas.List.Folds.{list_any-append}
use Rattle.std.proofs.lemmas.List.Sums.{fold-append}
use Rattle.std.proofs.lemmas.List.Elements.{filter-append}
use Rattle.std.proofs.lemmas.Slice.Eq.{bytes_eq-Decides}
use Rattle.crp_notes.specs.declared.naming.Naming.{Naming}
use Rattle.crp_notes.specs.Repeated.{times, kept_with, each_once}
use Rattle.crp_notes.specs.Unread.{is_same}
use Rattle.crp_notes.specs.Namings.{named}

-- the test is that of an equality
pub record Tells {A : Type 0} (same : A → A → Bool) : Type 0 where
  pub exact : (a b : A) → same a b ≡ true → a ≡ b
  pub symm : (a b : A) → same a b ≡ same b a

pub slots : Tells bytes_eq
slots = record { exact = λ a b h. (bytes_eq-Decides a b).0 h; symm = nat_list_eq_equiv.symm }

both : (a b : Bool) → (a && b) ≡ true → (a ≡ true) × (b ≡ true)
both true b h = (refl, h)
both false b h = absurd (cc)

same-order : (a b : ℕ × List ℕ) → is_same a b ≡ true → a ≡ b
same-order a b h =
    let parts = both (eqb a.0 b.0) (bytes_eq a.1 b.1) h in
    let number = eqb-true a.0 b.0 parts.0 in
    let text = (bytes_eq-Decides a.1 b.1).0 parts.1 in
    λ i. (number i, text i)

pub codes_of_messages : Tells is_same
codes_of_messages = record {
  exact = same-order;
  symm = λ a b. ap (λ c. c && bytes_eq a.1 b.1) (nat_eq_equiv.symm a.0 b.0) ∙ ap (λ c. eqb b.0 a.0 && c) (nat_list_eq_equiv.symm a.1 b.1);
}

module _ {A : Type 0} (same : A → A → Bool) where
  one : (b : Bool) (x : A) → length (cond b (x ∷ []) []) ≡ cond b 1 0
  one true x = refl
  one false x = refl

  pub times-push : (a b : A) (xs : List A) → times same a (xs ++ b ∷ []) ≡ times same a xs + cond (same a b) 1 0
  times-push a b xs =
      ap length (filter-append (same a) xs (b ∷ [])) ∙ length-append (filter (same a) xs) (filter (same a) (b ∷ []))
      ∙ ap (λ n. times same a xs + n) (one (same a b) b)

  pub new-kept : (kept : List A) (b : A) → list_any (same b) kept ≡ false → kept_with same kept b ≡ kept ++ b ∷ []
  new-kept kept b new = rw new refl

  -- of those that pass, one more
  pub kept-more : (passes : A → Bool) (b : A) (xs : List A) → passes b ≡ true → (length (filter passes (xs ++ b ∷ [])) ≡ length (filter passes xs) + 1) × (each_once same (filter passes (xs ++ b ∷ [])) ≡ kept_with same (each_once same (filter passes xs)) b)
  kept-more passes b xs h =
      let last : filter passes (xs ++ b ∷ []) ≡ filter passes xs ++ b ∷ [] = filter-append passes xs (b ∷ []) ∙ ap (λ c. filter passes xs ++ cond c (b ∷ []) []) h in
      (ap length last ∙ length-append (filter passes xs) (b ∷ []), ap (each_once same) last ∙ fold-append (kept_with same) [] (filter passes xs) (b ∷ []))

-- one that does not pass
pub kept-same : {A : Type 0} (passes : A → Bool) (b : A) (xs : List A) → passes b ≡ false → filter passes (xs ++ b ∷ []) ≡ filter passes xs
kept-same passes b xs h = filter-append passes xs (b ∷ []) ∙ ap (λ c. filter passes xs ++ cond c (b ∷ []) []) h ∙ append-nil (filter passes xs)

module _ {A : Type 0} (same : A → A → Bool) (tells : Tells same) where
  -- of what came before
  pub again-more : (a b : A) (xs : List A) (is : Bool) → same b a ≡ is → same a b ≡ is → nat_lt 0 (times same b xs) ≡ true → (nat_lt 0 (times same a xs) ≡ nat_lt 0 (times same a (xs ++ b ∷ []))) × (cond is true (nat_lt 1 (times same a xs)) ≡ nat_lt 1 (times same a (xs ++ b ∷ [])))
  again-more a b xs true e f before =
      let one_more : times same a (xs ++ b ∷ []) ≡ times same a xs + 1 = times-push same a b xs ∙ ap (λ c. times same a xs + cond c 1 0) f in
      let known : nat_lt 0 (times same a xs) ≡ true = subst (λ (x : A). nat_lt 0 (times same x xs) ≡ true) (tells.exact b a e) before in
      (rw one_more (grind (arith, tests)), rw one_more (grind (arith, tests)))
  again-more a b xs false e f before =
      let no_more : times same a (xs ++ b ∷ []) ≡ times same a xs = times-push same a b xs ∙ ap (λ c. times same a xs + cond c 1 0) f ∙ (omega arith) in
      (rw no_more refl, rw no_more refl)

  -- of what did not
  pub first-more : (a b : A) (xs : List A) (is : Bool) → same b a ≡ is → same a b ≡ is → nat_lt 0 (times same b xs) ≡ false → (cond is true (nat_lt 0 (times same a xs)) ≡ nat_lt 0 (times same a (xs ++ b ∷ []))) × (nat_lt 1 (times same a xs) ≡ nat_lt 1 (times same a (xs ++ b ∷ [])))
  first-more a b xs true e f before =
      let one_more : times same a (xs ++ b ∷ []) ≡ times same a xs + 1 = times-push same a b xs ∙ ap (λ c. times same a xs + cond c 1 0) f in
      let known : nat_lt 0 (times same a xs) ≡ false = subst (λ (x : A). nat_lt 0 (times same x xs) ≡ false) (tells.exact b a e) before in
      (rw one_more (grind (arith, tests)), rw one_more (grind (arith, tests)))
  first-more a b xs false e f before =
      let no_more : times same a (xs ++ b ∷ []) ≡ times same a xs = times-push same a b xs ∙ ap (λ c. times same a xs + cond c 1 0) f ∙ (omega arith) in
      (rw no_more refl, rw no_more refl)

  -- what is not kept yet goes last
  pub any-push : (a b : A) (kept : List A) → cond (same b a) true (list_any (same a) kept) ≡ list_any (same a) (kept ++ b ∷ [])
  any-push a b kept = rw (tells.symm b a, list_any-append) (either (same a b) (list_any (same a) kept))
    where
      either : (c d : Bool) → cond c true d ≡ (d || (c || false))
      either true true = refl
      either true false = refl
      either false true = refl
      either false false = refl

pub more : (namings : List Naming) (i : ℕ) (b : Naming) → i < length namings → b ≡ get_or namings i b → map named (take (i + 1) namings) ≡ map named (take i namings) ++ named b ∷ []
more namings i b below at = ap (map named) (take_more namings i b below ∙ ap (λ x. take i namings ++ x ∷ []) (sym at)) ∙ map_push named (take i namings) b
