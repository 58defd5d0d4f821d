use Rattle.std.proofs.Common.{◌∙◌, sym, ap, subst, refl, arith}
use Rattle.crp_plan.specs.BayNames.{YardBay, IsYardBay}
use Rattle.crp_said.specs.Said.{words_of_bay}
use Rattle.crp_said.proofs.Bays.{bay_takes, no_bay, bay_is}
use Rattle.crp_said.proofs.line_reading.read_bay.Goals as goal

pub returns-in_default-clause-none : goal.returns-in_default-clause-none
returns-in_default-clause-none c = no_bay c.args.line.now c.in_default.ensures

pub returns-then-bay-gt9999-clause-none : goal.returns-then-bay-gt9999-clause-none
returns-then-bay-gt9999-clause-none c stands =
    let is = bay_is c.args.line.now c.in-Some.block.now c.in-Some.bay c.in-Some.said c.in-Some.ensures stands in
    let low = is.four_digits in omega (arith, low)

pub returns-in_default-new-clause-none : goal.returns-in_default-new-clause-none
returns-in_default-new-clause-none c stands =
    let is = bay_is c.args.line.now c.in-Some.block.now c.in-Some.bay c.in-Some.said c.in-Some.ensures stands in
    let yes = c.in_default-new.ensures.accepted.1 is in cc

pub returns-clause-found : goal.returns-clause-found
returns-clause-found c =
    let t = bay_takes c.args.line.now ((c.in-Some.block.now, c.in-Some.bay), c.in-Some.said) c.in-Some.ensures in (
      subst IsYardBay (sym c.in-Some-new.ensures.value) (c.in-Some-new.ensures.accepted.0 refl),
      t.0,
      t.1 ∙ ap (λ (n : YardBay). words_of_bay n c.in-Some.said) (sym c.in-Some-new.ensures.value),
    )
