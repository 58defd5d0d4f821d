-- Tokens that are added one after the other.
use Rattle.std.proofs.Common.{◌≡◌, List, ◌++◌, ◌∷◌, [], ap, ◌∙◌, append_assoc}
use Rattle.std.specs.Prelude.{Result}
use Rattle.std.proofs.lemmas.Result.{on_ok_weaker}
use Rattle.json.specs.Token.{Token}
use Rattle.json.specs.Written.{Written, Writes}
use Rattle.crp_json.specs.Adding.{Adds}

abbrev pub Grown : Written → Written → List Token → Type 0
Grown old new ts = (new.before ≡ old.before) × (new.tokens ≡ old.tokens ++ ts)

pub after : (a b c : Written) (xs ys : List Token) → Grown a b xs → Grown b c ys → Grown a c (xs ++ ys)
after a b c xs ys p q = (q.0 ∙ p.0, q.1 ∙ ap (λ l. l ++ ys) p.1 ∙ append_assoc a.tokens xs ys)

-- the last of them are added, or one last token is
pub ended : {E : Type 0} (r : Result (Unit {0}) E) (a b c : Written) (xs ys : List Token) → Grown a b xs → Adds r b c ys → Adds r a c (xs ++ ys)
ended r a b c xs ys p q = on_ok_weaker r (λ e. after a b c xs ys p e) q

pub closed : {E : Type 0} (r : Result (Unit {0}) E) (a b c : Written) (xs : List Token) (t : Token) → Grown a b xs → Writes r b c t → Adds r a c (xs ++ t ∷ [])
closed r a b c xs t p q = on_ok_weaker r (λ e. after a b c xs (t ∷ []) p (q.room.0, e)) q.ok
