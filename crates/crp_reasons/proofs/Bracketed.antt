-- Texts of reasons, up to the last bracket.
use Rattle.std.proofs.Common.{◌≡◌, ◌↔◌, ℕ, ◌==◌, Bool, IsTrue, List, [], ◌∷◌, ◌++◌, codes, All, refl, sym, ap, ◌∙◌, subst, append_assoc}
use Rattle.std.specs.Fmt.{decimal}
use Rattle.std.specs.List.{IsAnyAnswer}
use Rattle.std.proofs.lemmas.Bool.{eq-eqb}
use Rattle.std.proofs.lemmas.Bool.Decides.{Decides-eqb}
use Rattle.std.proofs.lemmas.List.Folds.{list_any_at}
use Rattle.std.proofs.lemmas.List.Elements.{All-head, All-tail, contains_decides, Decides-contains}
use Rattle.crp_row.specs.Reasons.{IsReasonByte, AreReasons, reasons_text}
use Rattle.crp_reasons.proofs.Digits.{one_number}

-- what is found among the bytes that may stand in a text
pub may_stand : (byte : ℕ) (found : Bool) → IsAnyAnswer (λ y t. (y == byte) ≡ t) (codes "BLTRF0123456789.,;") found → IsTrue found ↔ IsReasonByte byte
may_stand byte found is = Decides-contains (codes "BLTRF0123456789.,;") byte found (contains_decides (λ x y. x == y) Decides-eqb (codes "BLTRF0123456789.,;") byte found is)

-- the bracket may not stand in a text
pub no_bracket : IsReasonByte 93 → ⊥
no_bracket is = (let e = list_any_at (λ y. y == 93) (codes "BLTRF0123456789.,;") is.0 93 is.1 (eq-eqb _ 93 is.2) in cc)

-- two texts, each up to a byte that may not stand in it
pub one_stop : (byte stop : ℕ) (text other rest behind : List ℕ) → (IsReasonByte byte → ⊥) → (IsReasonByte stop → ⊥) → All IsReasonByte text → All IsReasonByte other → text ++ byte ∷ rest ≡ other ++ stop ∷ behind → (text ≡ other) × (byte ≡ stop) × (rest ≡ behind)
one_stop byte stop [] [] rest behind never nor all also e = (refl, cc, cc)
one_stop byte stop [] (b ∷ other) rest behind never nor all also e =
    let head : b ≡ byte = cc in
    absurd (never (subst IsReasonByte head (All-head IsReasonByte b other also)))
one_stop byte stop (b ∷ text) [] rest behind never nor all also e =
    let head : b ≡ stop = cc in
    absurd (nor (subst IsReasonByte head (All-head IsReasonByte b text all)))
one_stop byte stop (b ∷ text) (c ∷ other) rest behind never nor all also e =
    let head : b ≡ c = cc in
    let tail : text ++ byte ∷ rest ≡ other ++ stop ∷ behind = cc in
    let more = one_stop byte stop text other rest behind never nor (All-tail IsReasonByte b text all) (All-tail IsReasonByte c other also) tail in
    (ap (λ l. b ∷ l) more.0 ∙ ap (λ x. x ∷ other) head, more.1, more.2)

-- texts up to the bracket are read in one way
pub one_text : (text other rest behind : List ℕ) → All IsReasonByte text → All IsReasonByte other → text ++ 93 ∷ rest ≡ other ++ 93 ∷ behind → (text ≡ other) × (rest ≡ behind)
one_text text other rest behind all also e = (let same = one_stop 93 93 text other rest behind no_bracket no_bracket all also e in (same.0, same.2))

-- reasons and what follows them
pub spread : (n : ℕ) (text rest : List ℕ) → reasons_text n text ++ rest ≡ 91 ∷ (decimal n ++ 58 ∷ (text ++ 93 ∷ rest))
spread n text rest = ap (λ l. 91 ∷ l) (append_assoc (decimal n) (58 ∷ (text ++ 93 ∷ [])) rest ∙ ap (λ l. decimal n ++ 58 ∷ l) (append_assoc text (93 ∷ []) rest))

-- reasons are read in one way
pub one_way : (n m : ℕ) (text other rest behind : List ℕ) → AreReasons n text → AreReasons m other → reasons_text n text ++ rest ≡ reasons_text m other ++ behind → (n ≡ m) × (text ≡ other) × (rest ≡ behind)
one_way n m text other rest behind are also e =
    let whole : 91 ∷ (decimal n ++ 58 ∷ (text ++ 93 ∷ rest)) ≡ 91 ∷ (decimal m ++ 58 ∷ (other ++ 93 ∷ behind)) = sym (spread n text rest) ∙ e ∙ spread m other behind in
    let tail : decimal n ++ 58 ∷ (text ++ 93 ∷ rest) ≡ decimal m ++ 58 ∷ (other ++ 93 ∷ behind) = cc in
    let number = one_number n m (text ++ 93 ∷ rest) (other ++ 93 ∷ behind) are.0 also.0 tail in
    let texts = one_text text other rest behind are.1 also.1 number.1 in
    (number.0, texts.0, texts.1)
