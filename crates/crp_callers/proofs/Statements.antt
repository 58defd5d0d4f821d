-- Rows of one height, rows with a height each, and the bay of six containers, which is a problem.
use Rattle.std.proofs.Common.{◌≡◌, ℕ, zero, suc, ◌<◌, ◌≤◌, List, [], ◌∷◌, length, replicate, refl, ⊎_elim, ◌==◌, false, arith}
use Rattle.std.specs.List.{AllByRecursion}
use Rattle.std.proofs.lemmas.Bool.{cases_lt, ne_eqb}
use Rattle.std.proofs.lemmas.List.Elements.{All-from_recursion}
use Rattle.crp_plan.specs.Rows.{occurrences, FitRows}
use Rattle.crp_plan.specs.Bay.{IsProblem}
use Rattle.crp_plan.specs.Faults.{FitTiers}
use Rattle.crp_callers.specs.SmallBays.{bay_of_six}

each_fits : (tiers : ℕ) (stacks : List (List ℕ)) → FitRows (replicate (length stacks) tiers) stacks → AllByRecursion (λ stack. length stack ≤ tiers) stacks
each_fits tiers [] fit = tt
each_fits tiers (stack ∷ stacks) fit = (fit.0, each_fits tiers stacks fit.1)

pub fit_tiers : (tiers : ℕ) (stacks : List (List ℕ)) → FitRows (replicate (length stacks) tiers) stacks → FitTiers tiers stacks
fit_tiers tiers stacks fit = All-from_recursion (λ stack. length stack ≤ tiers) stacks (each_fits tiers stacks fit)

pub as_many : (heights : List ℕ) (stacks : List (List ℕ)) → FitRows heights stacks → length heights ≡ length stacks
as_many [] [] fit = refl
as_many [] (stack ∷ stacks) fit = absurd fit
as_many (height ∷ heights) [] fit = absurd fit
as_many (height ∷ heights) (stack ∷ stacks) fit = omega (arith, as_many heights stacks fit.1)

each_once : (x : ℕ) → 1 ≤ x → x ≤ 6 → occurrences x bay_of_six.stacks ≡ 1
each_once zero low high = absurd (omega arith)
each_once (suc zero) low high = refl
each_once (suc (suc zero)) low high = refl
each_once (suc (suc (suc zero))) low high = refl
each_once (suc (suc (suc (suc zero)))) low high = refl
each_once (suc (suc (suc (suc (suc zero))))) low high = refl
each_once (suc (suc (suc (suc (suc (suc zero)))))) low high = refl
each_once (suc (suc (suc (suc (suc (suc (suc x))))))) low high = absurd (omega arith)

none_above : (x : ℕ) → 7 ≤ x → occurrences x bay_of_six.stacks ≡ 0
none_above x high =
    let other : (n : ℕ) → n ≤ 6 → (n == x) ≡ false = λ n low. ne_eqb n x (λ e. absurd (omega arith)) in
    rw (other 1 (omega arith), other 5 (omega arith), other 4 (omega arith), other 6 (omega arith), other 3 (omega arith), other 2 (omega arith)) refl

no_other : (x : ℕ) → 0 < occurrences x bay_of_six.stacks → (1 ≤ x) × (x ≤ 6)
no_other zero stands = absurd (omega (arith, stands))
no_other (suc x) stands = ⊎_elim
    (λ low. (omega arith, omega arith))
    (λ high. let none = none_above (suc x) (omega arith) in absurd (omega (arith, none, stands)))
    (cases_lt x 6)

pub six_is_problem : IsProblem bay_of_six
six_is_problem = record {
  some_rows = omega arith;
  few_rows = omega arith;
  heights_fit = All-from_recursion (λ height. (1 ≤ height) × (height ≤ 8)) (3 ∷ 3 ∷ 3 ∷ []) ((omega arith, omega arith), ((omega arith, omega arith), ((omega arith, omega arith), tt)));
  stacks_fit = (omega arith, (omega arith, (omega arith, tt)));
  each_once = each_once;
  no_other = no_other;
  ordered_fit = omega arith;
}
