-- The front of a source, and the mark that is passed over.
use Rattle.std.proofs.Common.{◌≡◌, ◌<◌, ◌≤◌, ◌++◌, ◌∷◌, ◌∙◌, [], ℕ, List, Option, Some, None, true, false, refl, sym, ap, arith, length, take, get_or, slice_index_or, slice_set, append-nil, append_assoc}
use Rattle.std.specs.Prelude.{remove}
use Rattle.std.specs.Io.KnownBytes.{Consumes, IsAtEnd, Keeps}
use Rattle.csv.specs.Reading.{is_bom, strip_bom}
use Rattle.csv.proofs.ReadFacts.{strip-short}
use Rattle.crp_plan.specs.Devices.{InterruptedMore}
use Rattle.crp_separated.specs.Given.{unmarked}

pub mark_goes : (l rest : List ℕ) → length l ≡ 3 → is_bom (get_or l 0 0) (get_or l 1 0) (get_or l 2 0) ≡ true → strip_bom (l ++ rest) ≡ rest
unfolding strip_bom
mark_goes [] rest n e = absurd (omega (arith, n))
mark_goes (a ∷ []) rest n e = absurd (omega (arith, n))
mark_goes (a ∷ b ∷ []) rest n e = absurd (omega (arith, n))
mark_goes (a ∷ b ∷ c ∷ []) rest n e = rw e refl
mark_goes (a ∷ b ∷ c ∷ d ∷ l) rest n e = absurd (omega (arith, n))

pub others_stay : (l rest : List ℕ) → length l ≡ 3 → is_bom (get_or l 0 0) (get_or l 1 0) (get_or l 2 0) ≡ false → strip_bom (l ++ rest) ≡ l ++ rest
unfolding strip_bom
others_stay [] rest n e = absurd (omega (arith, n))
others_stay (a ∷ []) rest n e = absurd (omega (arith, n))
others_stay (a ∷ b ∷ []) rest n e = absurd (omega (arith, n))
others_stay (a ∷ b ∷ c ∷ []) rest n e = rw e refl
others_stay (a ∷ b ∷ c ∷ d ∷ l) rest n e = absurd (omega (arith, n))

-- a front that stays short is no mark
pub short_front : (front : List ℕ) (old new : Option (List ℕ)) → Consumes old new [] → IsAtEnd new → length front < 3
    → Keeps (unmarked false front old) (unmarked true front new)
short_front front None new c e n = tt
short_front front (Some xs) None c e n = absurd c
short_front front (Some xs) (Some ys) c e n = rw (c, e, append-nil front) (sym (strip-short front n))

-- a front that is whole
pub whole_front : (front left : List ℕ) (b : ℕ) (old new : Option (List ℕ)) → Consumes old new (b ∷ [])
    → ((rest : List ℕ) → strip_bom ((front ++ (b ∷ [])) ++ rest) ≡ left ++ rest) → Keeps (unmarked false front old) (unmarked true left new)
whole_front front left b None new c h = tt
whole_front front left b (Some xs) None c h = absurd c
whole_front front left b (Some xs) (Some ys) c h = rw c (sym (h ys) ∙ ap strip_bom (append_assoc front (b ∷ []) ys))

pub one_taken : (n : ℕ) (l : List ℕ) (d : ℕ) → length l ≡ 1 → 0 < n → n ≤ length l → take n l ≡ get_or l 0 d ∷ []
one_taken n [] d e s t = absurd (omega (arith, e))
one_taken n (b ∷ []) d e s t = let is : n ≡ 1 = omega (arith, s, t) in rw is refl
one_taken n (b ∷ c ∷ l) d e s t = absurd (omega (arith, e))

-- interruptions over two calls, of which the first is none
pub more_interrupted : (n : ℕ) (a b c : Option ℕ) → InterruptedMore 0 a b → InterruptedMore n b c → InterruptedMore n a c
more_interrupted n None b c p q = tt
more_interrupted n (Some x) None c p q = absurd p
more_interrupted n (Some x) (Some y) None p q = absurd q
more_interrupted n (Some x) (Some y) (Some z) p q = omega (arith, p, q)

pub keeps_on : (a b c : Option (List ℕ)) → Keeps a b → Keeps b c → Keeps a c
keeps_on None b c p q = tt
keeps_on (Some x) None c p q = absurd p
keeps_on (Some x) (Some y) None p q = absurd q
keeps_on (Some x) (Some y) (Some z) p q = q ∙ p

pub first_taken : (l : List ℕ) (r : ℕ) → 0 < length l → r ≡ slice_index_or l 0 r → l ≡ r ∷ remove l 0
first_taken [] r s e = absurd (omega (arith, s))
first_taken (b ∷ l) r s e = ap (λ (x : ℕ). x ∷ l) (sym e)

-- the first byte of the front is given
pub first_given : (front left : List ℕ) (b : ℕ) (old known : Option (List ℕ)) → Keeps old (unmarked true front known) → front ≡ b ∷ left
    → Consumes old (unmarked true left known) (b ∷ [])
first_given front left b None known k e = tt
first_given front left b (Some xs) None k e = absurd k
first_given front left b (Some xs) (Some ys) k e = sym k ∙ rw e refl

pub first_set : (l : List ℕ) (r : ℕ) → 0 < length l → take 1 (slice_set l 0 r) ≡ r ∷ []
first_set [] r s = absurd (omega (arith, s))
first_set (b ∷ l) r s = refl
