-- Texts are translated piece by piece.
use Rattle.std.specs.Prelude.{◌⊎◌}
use Rattle.std.proofs.Common.{◌≡◌, ◌==◌, ◌+◌, ◌<◌, ◌≤◌, ◌++◌, ◌∷◌, ◌∙◌, [], ℕ, List, Option, Some, None, true, zero, suc, refl, sym, ap, arith, append_assoc, inl, inr, length, take, drop}
use Rattle.std.proofs.lemmas.Bool.{cases_Bool}
use Rattle.std.specs.Io.KnownBytes.{Consumes, IsAtEnd, Keeps}
use Rattle.csv.proofs.ReadFacts.{part-rest}
use Rattle.crp_separated.specs.declared.places.Place.{Place}
use Rattle.crp_separated.specs.declared.places.Place.TheVariants.{FieldStart, Field, Quoted, QuoteEnd}
use Rattle.crp_separated.specs.Separators.{behind, behind_all, ends_line, instead, inside, translated}
use Rattle.crp_separated.specs.Given.{seen}

-- a text in two pieces
pub translated_append : (from to : ℕ) (place : Place) (xs ys : List ℕ)
    → translated from to place (xs ++ ys) ≡ translated from to place xs ++ translated from to (behind_all from place xs) ys
translated_append from to place [] ys = refl
translated_append from to place (c ∷ xs) ys = ap (λ (more : List ℕ). instead from to place c ++ more) (translated_append from to (behind from place c) xs ys)
    ∙ sym (append_assoc (instead from to place c) (translated from to (behind from place c) xs) (translated from to (behind_all from (behind from place c) xs) ys))

-- a piece that was read, where all that was ready is given
pub refilled : (from to : ℕ) (place : Place) (ready got : List ℕ) (old new : Option (List ℕ)) → Consumes old new got → ready ≡ []
    → Keeps (seen from to place ready old) (seen from to (behind_all from place got) (translated from to place got) new)
refilled from to place ready got None new c e = tt
refilled from to place ready got (Some xs) None c e = absurd c
refilled from to place ready got (Some xs) (Some ys) c e = rw (e, c) (sym (translated_append from to place got ys))

filled : {A : Type 0} (x : A) (xs : List A) → x ∷ xs ≡ [] → ⊥
filled x xs e = cc e

-- nothing stands for a quote between quotes alone, and something for each other byte
abbrev Waits : Place → ℕ → Type 0
Waits place b = (place ≡ Quoted) × ((b == 34) ≡ true)

some_inside : (from to b : ℕ) (more : List ℕ) → inside from to b ++ more ≡ [] → ⊥
some_inside from to b more e = elim (cases_Bool (b == from)) [
  | inl s ↦ filled _ _ (rw s at e)
  | inr s ↦ elim (cases_Bool (ends_line b)) [
    | inl l ↦ filled _ _ (rw (s, l) at e)
    | inr l ↦ elim (cases_Bool (b == 34)) [
      | inl q ↦ filled _ _ (rw (s, l, q) at e)
      | inr q ↦ filled _ _ (rw (s, l, q) at e)
    ]
  ]
]

some_first : (from to b : ℕ) (more : List ℕ) → instead from to FieldStart b ++ more ≡ [] → ⊥
some_first from to b more e = elim (cases_Bool (b == from)) [
  | inl s ↦ filled _ _ (rw s at e)
  | inr s ↦ elim (cases_Bool (ends_line b)) [
    | inl l ↦ filled _ _ (rw (s, l) at e)
    | inr l ↦ elim (cases_Bool (b == 34)) [
      | inl q ↦ filled _ _ (rw (s, l, q) at e)
      | inr q ↦ filled _ _ (rw (s, l, q) at e)
    ]
  ]
]

waits : (from to : ℕ) (place : Place) (b : ℕ) (more : List ℕ) → instead from to place b ++ more ≡ [] → Waits place b
waits from to FieldStart b more e = absurd (some_first from to b more e)
waits from to Field b more e = absurd (some_inside from to b more e)
waits from to QuoteEnd b more e = absurd (some_inside from to b more e)
waits from to Quoted b more e = elim (cases_Bool (b == 34)) [
  | inl q ↦ (refl, q)
  | inr q ↦ absurd (filled b more (rw q at e))
]

-- nothing stands for no bytes, and for a quote that ends a text between quotes
pub nothing_stands : (from to : ℕ) (place : Place) (bytes : List ℕ) → translated from to place bytes ≡ []
    → (bytes ≡ []) ⊎ ((place ≡ Quoted) × (behind_all from place bytes ≡ QuoteEnd))
nothing_stands from to place [] e = inl refl
nothing_stands from to place (b ∷ []) e =
    let w = waits from to place b [] e in
    let quote : (b == 34) ≡ true = w.1 in
    inr (w.0, rw (w.0, quote) refl)
nothing_stands from to place (b ∷ c ∷ bytes) e =
    let w = waits from to place b _ e in
    let quote : (b == 34) ≡ true = w.1 in
    let more : inside from to c ++ translated from to (behind from QuoteEnd c) bytes ≡ [] = rw (w.0, quote) at e in
    absurd (some_inside from to c _ more)

pub drop_all : (n : ℕ) (l : List ℕ) → length l ≤ n → drop n l ≡ []
drop_all zero [] e = refl
drop_all (suc n) [] e = refl
drop_all zero (b ∷ l) e = absurd (omega (arith, e))
drop_all (suc n) (b ∷ l) e = drop_all n l (omega (arith, e))

pub none_taken : (n : ℕ) (l : List ℕ) → take n l ≡ [] → 0 < length l → n ≡ 0
none_taken zero l e s = refl
none_taken (suc n) [] e s = absurd (omega (arith, s))
none_taken (suc n) (b ∷ l) e s = absurd (filled b _ e)

-- what is given of the bytes that are ready
pub given_front : (from to : ℕ) (place : Place) (ready : List ℕ) (given n : ℕ) (front : List ℕ) (old known : Option (List ℕ))
    → Keeps old (seen from to place (drop given ready) known) → front ≡ take n (drop given ready) → Consumes old (seen from to place (drop (given + n) ready) known) front
given_front from to place ready given n front None known k e = tt
given_front from to place ready given n front (Some xs) None k e = absurd k
given_front from to place ready given n front (Some xs) (Some ys) k e = sym k ∙ rw e (ap (λ (l : List ℕ). l ++ translated from to place ys) (part-rest given n ready)
    ∙ append_assoc (take n (drop given ready)) (drop (given + n) ready) (translated from to place ys))

pub seen_end : (from to : ℕ) (place : Place) (ready : List ℕ) (known : Option (List ℕ)) → ready ≡ [] → IsAtEnd known → IsAtEnd (seen from to place ready known)
seen_end from to place ready None e h = tt
seen_end from to place ready (Some xs) e h = rw (e, h) refl

pub none_dropped : (n : ℕ) (l : List ℕ) → drop n l ≡ [] → length l ≤ n
none_dropped n [] e = omega arith
none_dropped zero (b ∷ l) e = absurd (filled b _ e)
none_dropped (suc n) (b ∷ l) e = omega (arith, none_dropped n l e)

pub is_empty : (l : List ℕ) → length l ≡ 0 → l ≡ []
is_empty [] e = refl
is_empty (b ∷ l) e = absurd (omega (arith, e))

pub keeps_same : (a : Option (List ℕ)) → Keeps a a
keeps_same None = tt
keeps_same (Some xs) = refl
