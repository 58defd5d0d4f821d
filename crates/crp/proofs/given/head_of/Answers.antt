use Rattle.std.proofs.Common.{◌≡◌, ◌∙◌, ℕ, List, [], Option, Result, Ok, Err, map, ap, subst}
use Rattle.std.specs.Prelude.{IfOk, option_map}
use Rattle.crp_json.specs.declared.entry.Printed.{Printed}
use Rattle.crp_words.specs.Json.{IsJsonHead}
use Rattle.crp.proofs.given.head_of.Goals as goal

same_words : {A E : Type 0} {words others : List (List ℕ)} (p : A → Printed) (h : A → Option (List ℕ)) (r : Result A E) (line : List ℕ) → IfOk r (λ x. IsJsonHead words line (p x) (h x)) → words ≡ others
    → (l : List ℕ) × IfOk r (λ x. IsJsonHead others l (p x) (h x))
same_words p h (Ok x) line is e = (line, subst (λ (w : List (List ℕ)). IsJsonHead w line (p x) (h x)) e is)
same_words p h (Err f) line is e = (line, tt)

pub returns-in-Ok : goal.returns-in-Ok
returns-in-Ok c =
    same_words (λ x. x.0) (λ x. option_map (λ text. text.items) x.1) c.json_head.result _ c.json_head.ensures.asked (ap (map (λ text. text.now)) c.deref.ensures.value ∙ c.in-Ok.ensures)

pub returns-in-Err : goal.returns-in-Err
returns-in-Err c = ([], tt)
