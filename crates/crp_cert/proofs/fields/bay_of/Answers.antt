use Rattle.std.proofs.Common.{◌++◌, sym, ap, ◌∙◌, refl, subst}
use Rattle.crp_plan.specs.BayNames.{YardBay, IsYardBay}
use Rattle.crp_cert.specs.Text.{bay_line}
use Rattle.crp_cert.proofs.Lines.{name_none, name_is, name_takes}
use Rattle.crp_cert.proofs.fields.bay_of.Goals as goal

pub returns-in_default-clause-none : goal.returns-in_default-clause-none
returns-in_default-clause-none c name rest is e = name_none c.args.bytes.now name rest c.in_default.ensures.value is e

pub returns-in_default-new-clause-none : goal.returns-in_default-new-clause-none
returns-in_default-new-clause-none c name rest is e =
    let same = (name_is c.args.bytes.now c.in-Some.block.now c.in-Some.bay c.in-Some.rest.now name rest c.in-Some.ensures.value is e).0 in
    let yes = c.in_default-new.ensures.accepted.1 (subst IsYardBay same is) in cc

pub returns-clause-found : goal.returns-clause-found
returns-clause-found c =
    let t = (name_takes c.args.bytes.now c.in-Some.block.now c.in-Some.bay c.in-Some.rest.now c.in-Some.ensures.value).0 in (
      subst IsYardBay (sym c.in-Some-new.ensures.value) (c.in-Some-new.ensures.accepted.0 refl),
      t ∙ ap (λ (n : YardBay). bay_line n ++ c.in-Some.rest.now) (sym c.in-Some-new.ensures.value),
    )
