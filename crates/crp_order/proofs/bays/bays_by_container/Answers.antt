use Rattle.std.proofs.Common.{◌≡◌, ◌<◌, ◌∙◌, ap, arith, length, subst}
use Rattle.crp_order.specs.BayProblems.{standing}
use Rattle.crp_order.specs.Groups.{pointed, Places}
use Rattle.crp_order.proofs.YardSteps.{AtBay, at_bay}
use Rattle.crp_order.proofs.PlaceSteps.{placed-more}
use Rattle.crp_order.proofs.bays.bays_by_container.Goals as goal

pub loop-i-preserved : goal.loop-i-preserved
loop-i-preserved c =
    let there : c.loop-i.i < length c.args.yard.now.bays = omega (arith, c.count-i-end.ensures.value, c.loop-i-test.true) in
    let at : AtBay c.args.yard.now c.loop-i.i = at_bay c.args.yard.now c.loop-i.i there in
    let stacks : pointed c.deref.result.now ≡ at.bay.1 = ap pointed c.deref.ensures.value ∙ c.in_ok-stacks.ensures ∙ at.stacks in
    placed-more c.args.yard.now c.loop-i.i at.bay c.loop-i.bays.entries c.place_bay.new.bays.entries c.count-i-end.ensures.yard at.here c.loop-i.invariant
    (subst (λ s. Places c.loop-i.bays.entries c.place_bay.new.bays.entries (standing s) c.loop-i.i) stacks c.in_ok-place_bay.ensures)
