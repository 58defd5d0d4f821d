-- One byte more of reasons.
use Rattle.std.proofs.Common.{◌≡◌, ◌↔◌, ℕ, ◌≤◌, Bool, IsTrue, List, [], ◌∷◌, ◌++◌, All, refl, sym, ap, subst}
use Rattle.std.proofs.lemmas.List.Elements.{All-head, All-tail, All-cons, All-nil}
use Rattle.crp_thinning.specs.Owed.{Following, Takes}
use Rattle.crp_row.specs.Reasons.{IsReasonByte}
use Rattle.crp_reasons.specs.Rests.{Text, Whole, GoesOn}

-- the text that is left, without its first byte
record Shorter (byte : ℕ) (rest text : List ℕ) : Type 0 where
  others : List ℕ
  is : text ≡ byte ∷ others
  left : rest ≡ others ++ 93 ∷ []

shorter : (byte : ℕ) (rest text : List ℕ) → (byte ≡ 93 → ⊥) → byte ∷ rest ≡ text ++ 93 ∷ [] → Shorter byte rest text
shorter byte rest [] inner e = (let head : byte ≡ 93 = cc in absurd (inner head))
shorter byte rest (b ∷ text) inner e = record { others = text; is = (let head : byte ≡ b = cc in ap (λ x. x ∷ text) (sym head)); left = cc }

-- a byte of the text
pub byte_goes_on : (number byte : ℕ) (old new : Following) → IsReasonByte byte → (byte ≡ 93 → ⊥) → ((text : List ℕ) → Takes new text ↔ Takes old (byte ∷ text)) → GoesOn (Text number old) byte (Text number new)
byte_goes_on number byte old new may inner takes = record {
  low = λ small. small;
  ends = λ closing n rest. (
    λ k. (byte ∷ k.0, (k.1.0, All-cons IsReasonByte byte k.0 may k.1.1), λ t. (takes k.0).0 (k.2 t), k.3, ap (λ l. byte ∷ l) k.4),
    λ k.
        let s = shorter byte rest k.0 inner k.4 in
        let all : All IsReasonByte (byte ∷ s.others) = subst (All IsReasonByte) s.is k.1.1 in
        (s.others, (k.1.0, All-tail IsReasonByte byte s.others all), λ t. (takes s.others).1 (subst (Takes old) s.is (k.2 t)), k.3, s.left),
  );
}

-- the last bracket
pub bracket_goes_on : (number : ℕ) (follower : Following) (shown : Bool) → IsTrue shown ↔ Takes follower [] → (IsReasonByte 93 → ⊥) → number ≤ 255 → GoesOn (Text number follower) 93 (Whole number shown)
bracket_goes_on number follower shown done never small = record {
  low = λ _. tt;
  ends = λ closing n rest. (
    λ k. ([], (subst (λ m. m ≤ 255) (sym k.0) small, All-nil IsReasonByte), λ t. done.0 (k.1 t), k.0, ap (λ l. 93 ∷ l) k.2),
    λ k.
        let e = empty rest k.0 k.1.1 k.4 in
        (k.3, λ t. done.1 (subst (Takes follower) e.0 (k.2 t)), e.1),
  );
}
  where
    empty : (rest text : List ℕ) → All IsReasonByte text → 93 ∷ rest ≡ text ++ 93 ∷ [] → (text ≡ []) × (rest ≡ [])
    empty rest [] all e = (refl, cc)
    empty rest (b ∷ text) all e = (let head : b ≡ 93 = cc in absurd (never (subst IsReasonByte head (All-head IsReasonByte b text all))))
