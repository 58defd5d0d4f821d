use Rattle.std.proofs.Common.{◌∙◌, sym, ap, subst, refl, arith}
use Rattle.crp_plan.specs.BayNames.{IsYardBay}
use Rattle.crp_json.specs.Entries.{title_words}
use Rattle.crp_json.proofs.CheckLines.{title_takes, no_title, title_is}
use Rattle.crp_json.proofs.check_lines.read_title.Goals as goal

pub returns-in_default-clause-none : goal.returns-in_default-clause-none
returns-in_default-clause-none c = no_title c.args.line.now c.in_default.ensures

pub returns-then-bay-gt9999-clause-none : goal.returns-then-bay-gt9999-clause-none
returns-then-bay-gt9999-clause-none c stands =
    let is = title_is c.args.line.now c.in-Some.block.now c.in-Some.bay c.in-Some.ensures stands in
    let low = is.four_digits in omega (arith, low)

pub returns-in_default-new-clause-none : goal.returns-in_default-new-clause-none
returns-in_default-new-clause-none c stands =
    let is = title_is c.args.line.now c.in-Some.block.now c.in-Some.bay c.in-Some.ensures stands in
    let yes = c.in_default-new.ensures.accepted.1 is in cc

pub returns-clause-found : goal.returns-clause-found
returns-clause-found c =
    let k = c.in-Some in (
      subst IsYardBay (sym c.in-Some-new.ensures.value) (c.in-Some-new.ensures.accepted.0 refl),
      title_takes c.args.line.now (k.block.now, k.bay) k.ensures ∙ ap title_words (sym c.in-Some-new.ensures.value),
    )
