-- Where the front of reasons is read.
use Rattle.std.proofs.Common.{◌≡◌, ℕ, true, false, IsTrue, List, [], ◌∷◌, ◌++◌, codes, All, refl, sym, ap, ◌∙◌, subst, arith, append_assoc, append-nil}
use Rattle.std.specs.Fmt.{decimal}
use Rattle.std.proofs.lemmas.List.Elements.{All-nil}
use Rattle.crp_plan.specs.Bay.{Position}
use Rattle.crp_thinning.specs.Symbols.{Closes}
use Rattle.crp_row.specs.Reasons.{IsReasonByte, reasons_text}
use Rattle.crp_reasons.specs.Rests.{AreBehind, Left, Number, Digits, Text, Whole, Refused, Ends, IsReading, GoesOn, HaveBegun, Means, step_of}
use Rattle.crp_reasons.proofs.Digits.{colon_read}
use Rattle.crp_reasons.proofs.Bracketed.{one_way}

-- one byte more
pub fed : (place : Position) (front : List ℕ) (byte : ℕ) (old new : Left) → GoesOn old byte new → IsReading place front old → IsReading place (front ++ byte ∷ []) new
fed place front byte old new g r = record {
  low = g.low r.low;
  ends = λ closing n rest.
      let e : (front ++ byte ∷ []) ++ rest ≡ front ++ byte ∷ rest = append_assoc front (byte ∷ []) rest in
      let both = r.ends closing n (byte ∷ rest) in
      let next = g.ends closing n rest in
      (λ k. next.1 (both.0 (subst (AreBehind closing place n) e k)), λ k. subst (AreBehind closing place n) (sym e) (both.1 (next.0 k)));
}

-- no byte is read where one must stand
nothing : (xs ys : List ℕ) (y : ℕ) → [] ≡ xs ++ y ∷ ys → ⊥
nothing [] ys y e = cc
nothing (x ∷ xs) ys y e = cc

none : All IsReasonByte []
none = All-nil IsReasonByte

not_closing : {P : Type 0} → IsTrue false → P
not_closing is = absurd cc

-- what is read has begun, if a rest ends it, and none that is empty does
has_begun : (place : Position) (front : List ℕ) (left : Left) → IsReading place front left → (n : ℕ) (rest : List ℕ) → Ends false left n rest → ((m : ℕ) → Ends false left m [] → ⊥) → HaveBegun front
has_begun place front left r n rest ends open' =
    let k = (r.ends false n rest).1 ends in
    record {
      number = n;
      text = k.text;
      rest = rest;
      are = k.are;
      is_text = k.is_text;
      not_whole = λ m whole are is. open' m ((r.ends false m []).0 (record { text = whole; are = are; closes = not_closing; is_text = ap (λ l. 91 ∷ l) (append-nil front) ∙ is }));
    }

-- what a step says
pub means : (place : Position) (front : List ℕ) (left : Left) → IsReading place front left → Means place front (step_of left)
means place front (Number s) r = has_begun place front (Number s) r 0 (decimal 0 ++ 58 ∷ 93 ∷ []) ([], (omega arith, none), not_closing, refl) (λ m k. nothing (decimal m) (k.0 ++ 93 ∷ []) 58 k.3)
means place front (Digits s k) r = has_begun place front (Digits s k) r k (58 ∷ 93 ∷ []) ([], (r.low, none), not_closing, refl) open'
  where
    open' : (m : ℕ) → Ends false (Digits s k) m [] → ⊥
    open' m e = (let same = ap (λ p. p.1) (colon_read k m [] (e.0 ++ 93 ∷ []) r.low e.1.0 e.3) in cc)
means place front (Text k f) r = has_begun place front (Text k f) r k (93 ∷ []) ([], (r.low, none), not_closing, refl, refl) (λ m e. nothing e.0 [] 93 e.4)
means place front (Whole k shown) r =
    let some = (r.ends false k []).1 (refl, not_closing, refl) in
    let is : codes "[" ++ front ≡ reasons_text k some.text = ap (λ l. 91 ∷ l) (sym (append-nil front)) ∙ some.is_text in
    record {
      text = some.text;
      are = some.are;
      is_text = is;
      closes = (
        λ t.
            let other = (r.ends true k []).1 (refl, λ _. t, refl) in
            let same = one_way k k other.text some.text [] [] other.are some.are (ap (λ l. l ++ []) (sym other.is_text ∙ some.is_text)) in
            subst (Closes place k) same.1 (other.closes refl),
        λ c. ((r.ends true k []).0 (record { text = some.text; are = some.are; closes = λ _. c; is_text = some.is_text })).1 refl,
      );
    }
means place front Refused r = λ n text rest are is. (r.ends false n rest).0 (record { text = text; are = are; closes = not_closing; is_text = is })
