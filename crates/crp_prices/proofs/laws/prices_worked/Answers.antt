use Rattle.std.proofs.Common.{◌≡◌, ◌<◌, ◌≤◌, ℕ, false, ◌==◌, [], ◌∷◌, refl, inl, inr, ⊎_elim, arith}
use Rattle.std.proofs.lemmas.Bool.{eqb-true, or_cases}
use Rattle.crp_plan.specs.Rows.{occurrences}
use Rattle.crp_prices.specs.Prices.{IsFirst, IsLater}
use Rattle.crp_prices.specs.Worked.{worked}
use Rattle.crp_prices.proofs.laws.prices_worked.Goals as goal

four : IsFirst worked (record { rank = 4; turn = 1 })
four = record {
  beneath = 1 ∷ [];
  stands = record { row = 0; over = 3 ∷ []; stands = refl };
  turn_stands = refl;
  is_ordered = omega arith;
  is_lower = omega arith;
  least = λ x le h. ⊎_elim (λ e. let same : ◌≡◌ {A = ℕ} 1 x = eqb-true 1 x e in omega arith) (λ e. cc) (or_cases (1 == x) false h);
}

four_later : (v : ℕ) → 1 < v → v < 4 → 1 ≤ occurrences v worked.stacks → IsLater worked (record { rank = 4; turn = v })
four_later v lo hi stands = record { first = 1; blocks = four; later = lo; is_ordered = omega arith; stands = stands; soon = λ le. hi }

pub returns : goal.returns
returns c = record {
  jobs = refl;
  due = refl;
  mosts = refl;
  bound = refl;
  first_row = (record { jobs = (inr (four_later 2 (omega arith) (omega arith) (omega arith)), tt); in_order = (tt, tt); each_open = (refl, tt) }, refl);
  second_row = (record { jobs = (inl four, tt); in_order = (tt, tt); each_open = (refl, tt) }, refl);
  third_row = (record { jobs = (inr (four_later 3 (omega arith) (omega arith) (omega arith)), tt); in_order = (tt, tt); each_open = (refl, tt) }, refl);
}
