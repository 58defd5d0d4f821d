-- Letters and segments, as the standard service characters spell them.
use Rattle.std.proofs.Common.{◌≡◌, ◌≢◌, ℕ, ◌≤◌, List, [], ◌∷◌, ◌++◌, codes, refl, lit≤, arith, rules}
use Rattle.edi_text.specs.Marks.{IsPlain, SplitsInto}
use Rattle.edi_text.specs.Spelling.{standard, BeginsWithAdvice, OpensWithout, SpellsSegment}
use Rattle.crp_callers.specs.Released.{with_terminator, released, trailer}

-- from the first letter on no byte is a service character
plain : (b : ℕ) → 65 ≤ b → IsPlain standard b
plain b high = record {
  component_separator = λ e. omega arith;
  element_separator = λ e. omega arith;
  terminator = λ e. omega arith;
  release = λ e. let same : 63 ≡ b = cc in omega arith;
}

-- a letter spells itself
pub letter : (b : ℕ) → 65 ≤ b → (32 ≤ b) × IsPlain standard b × (b ≡ b)
letter b high = (omega arith, plain b high, refl)

-- a front and a back
pub then : {P Q : List ℕ → Type 0} (front back : List ℕ) → P front → Q back → SplitsInto P Q (front ++ back)
then front back of_front of_back = record { front = front; back = back; whole = refl; of_front = of_front; of_back = of_back }

-- a text that begins with another letter than U has no service string advice
no_advice : (b : ℕ) (bytes : List ℕ) → b ≢ 85 → BeginsWithAdvice (b ∷ bytes) → ⊥
no_advice b bytes other advice = let same : b ≡ 85 = cc in other same

pub opens : (b : ℕ) (bytes : List ℕ) → b ≢ 85 → OpensWithout (b ∷ bytes) standard []
opens b bytes other = record { no_advice = no_advice b bytes other; named = refl; empty = refl }

pub first_segment : SpellsSegment standard with_terminator released
first_segment = record {
  tag = search rules;
  elements = (λ e. cc, tt);
  spelled = then (70 ∷ []) (codes "TX+A?'B'") (letter 70 (lit≤ tt))
      (then (84 ∷ []) (codes "X+A?'B'") (letter 84 (lit≤ tt))
      (then (88 ∷ []) (codes "+A?'B'") (letter 88 (lit≤ tt))
      (then (43 ∷ []) (codes "A?'B'") refl
      (then (65 ∷ []) (codes "?'B'") (letter 65 (lit≤ tt))
      (then (63 ∷ 39 ∷ []) (codes "B'") (lit≤ tt, refl, refl)
      (then (66 ∷ []) (codes "'") (letter 66 (lit≤ tt))
      (then (39 ∷ []) [] refl refl)))))));
}

pub second_segment : SpellsSegment standard trailer (codes "UNT'")
second_segment = record {
  tag = search rules;
  elements = tt;
  spelled = then (85 ∷ []) (codes "NT'") (letter 85 (lit≤ tt))
      (then (78 ∷ []) (codes "T'") (letter 78 (lit≤ tt))
      (then (84 ∷ []) (codes "'") (letter 84 (lit≤ tt))
      (then (39 ∷ []) [] refl refl)));
}
