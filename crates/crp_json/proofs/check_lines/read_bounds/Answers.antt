use Rattle.std.proofs.Common.{◌∙◌, sym, ap, subst, refl, arith}
use Rattle.crp_plan.specs.BayNames.{YardBay, IsYardBay}
use Rattle.crp_checker.specs.declared.verdict.Verdict.TheVariants as verdict
use Rattle.crp_json.specs.Entries.{words_of_shown}
use Rattle.crp_json.proofs.CheckLines.{bounds_takes, no_bounds, bounds_are}
use Rattle.crp_json.proofs.check_lines.read_bounds.Goals as goal

pub returns-in_default-clause-none : goal.returns-in_default-clause-none
returns-in_default-clause-none c = no_bounds c.args.line.now c.in_default.ensures

pub returns-then-bay-gt9999-clause-none : goal.returns-then-bay-gt9999-clause-none
returns-then-bay-gt9999-clause-none c stands =
    let is = bounds_are c.args.line.now c.in-Some.block.now c.in-Some.bay c.in-Some.lower c.in-Some.upper c.in-Some.ensures stands in
    let low = is.four_digits in omega (arith, low)

pub returns-in_default-new-clause-none : goal.returns-in_default-new-clause-none
returns-in_default-new-clause-none c stands =
    let is = bounds_are c.args.line.now c.in-Some.block.now c.in-Some.bay c.in-Some.lower c.in-Some.upper c.in-Some.ensures stands in
    let yes = c.in_default-new.ensures.accepted.1 is in cc

pub returns-clause-found : goal.returns-clause-found
returns-clause-found c =
    let k = c.in-Some in
    let t = bounds_takes c.args.line.now ((k.block.now, k.bay), (k.lower, k.upper)) k.ensures in (
      subst IsYardBay (sym c.in-Some-new.ensures.value) (c.in-Some-new.ensures.accepted.0 refl),
      t.0,
      t.1 ∙ ap (λ (n : YardBay). words_of_shown n (verdict.Bounds k.lower k.upper)) (sym c.in-Some-new.ensures.value),
    )
