use Rattle.std.proofs.Common.{◌≡◌, ◌∙◌, [], ◌∷◌, ◌++◌, inl, inr, refl, ap, arith}
use Rattle.std.specs.Prelude.{codes}
use Rattle.std.specs.Fmt.{decimal}
use Rattle.std.proofs.lemmas.Fmt.{decimal_digit, decimal_step}
use Rattle.crp_prices.specs.PriceLists.{list_text}
use Rattle.crp_prices.specs.Worked.{worked_list}
use Rattle.crp_prices.proofs.laws.price_list_worked.Goals as goal

ten : decimal 10 ≡ codes "10"
ten = decimal_step 10 (omega arith) (omega arith) ∙ ap (λ x. x ++ 48 ∷ []) (decimal_digit 1 (omega arith))

fourteen : decimal 14 ≡ codes "14"
fourteen = decimal_step 14 (omega arith) (omega arith) ∙ ap (λ x. x ++ 52 ∷ []) (decimal_digit 1 (omega arith))

spelled : list_text worked_list ≡ codes "3:1.10;4:1.14,2.6,3.3"
spelled =
    rw (ten, fourteen, decimal_digit 1 (omega arith), decimal_digit 2 (omega arith), decimal_digit 3 (omega arith), decimal_digit 4 (omega arith), decimal_digit 6 (omega arith)) refl

pub returns-clause-listed : goal.returns-clause-listed
returns-clause-listed c = (
  record { rank = omega arith; turn = omega arith; some = omega arith; few = omega arith },
  (inl (omega arith), (inl (omega arith), (inl (omega arith), tt))),
  (
    record { rank = omega arith; turn = omega arith; some = omega arith; few = omega arith },
    (inr (refl, omega arith), (inr (refl, omega arith), tt)),
    (
      record { rank = omega arith; turn = omega arith; some = omega arith; few = omega arith },
      (inr (refl, omega arith), tt),
      (record { rank = omega arith; turn = omega arith; some = omega arith; few = omega arith }, tt, tt),
    ),
  ),
)

pub returns-clause-text : goal.returns-clause-text
returns-clause-text c = spelled
