use Rattle.std.proofs.Common.{◌≡◌, List, [], ◌∷◌, length, refl, sym, arith, tests}
use Rattle.crp_plan.specs.BayNames.{YardBay}
use Rattle.crp_order.specs.OfBays.{of_bays}
use Rattle.crp_order.proofs.ChosenSteps.{all-chosen}
use Rattle.crp_order.proofs.choosing.sequence_of_bays.Goals as goal

pub returns-then-is_empty : goal.returns-then-is_empty
returns-then-is_empty c = record {
  whole = c.in_ok-whole.whole;
  ordered = c.in_ok-whole.ensures;
  chosen = for_all c.args.names.now (grind (arith, tests, c.if-is_empty.true, c.is_empty.ensures));
}
  where
    for_all : (names : List YardBay) → length names ≡ 0 → c.in_ok-whole.whole ≡ of_bays names c.args.yard.now c.in_ok-whole.whole
    for_all [] e = sym (all-chosen c.args.yard.now c.in_ok-whole.whole)
    for_all (name ∷ names) e = absurd (omega arith)
