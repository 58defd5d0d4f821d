use Rattle.std.proofs.Common.{◌∙◌, ap, arith, refl, sym, subst}
use Rattle.std.proofs.lemmas.Option.{none-some}
use Rattle.crp_plan.specs.BayNames.{YardBay, IsYardBay}
use Rattle.crp_words.specs.Bays.{parts_at}
use Rattle.crp_words.specs.Words.{bay_name}
use Rattle.crp_words.proofs.BayTexts.{parts_take, parts_again, parts_are}
use Rattle.crp_words.proofs.bays.bay_in.Goals as goal

pub returns-in_default-clause-none : goal.returns-in_default-clause-none
returns-in_default-clause-none c bay is e = none-some (bay.block, bay.bay) (sym c.in_default.ensures ∙ ap parts_at (sym e) ∙ parts_again bay is)

pub returns-then-bay-gt9999-clause-none : goal.returns-then-bay-gt9999-clause-none
returns-then-bay-gt9999-clause-none c bay is e =
    let same = parts_are c.args.text.now c.in-Some.block.now c.in-Some.bay c.in-Some.ensures bay is e in
    let few = is.four_digits in
    omega (arith, few, ap (λ (b : YardBay). b.bay) same, c.if-bay-gt9999.true)

pub returns-in_default-new-clause-none : goal.returns-in_default-new-clause-none
returns-in_default-new-clause-none c bay is e =
    let same = parts_are c.args.text.now c.in-Some.block.now c.in-Some.bay c.in-Some.ensures bay is e in
    let yes = c.in_default-new.ensures.accepted.1 (subst IsYardBay same is) in cc

pub returns-clause-some : goal.returns-clause-some
returns-clause-some c = (
  subst IsYardBay (sym c.in-Some-new.ensures.value) (c.in-Some-new.ensures.accepted.0 refl),
  ap bay_name c.in-Some-new.ensures.value ∙ sym (parts_take c.args.text.now (c.in-Some.block.now, c.in-Some.bay) c.in-Some.ensures),
)
