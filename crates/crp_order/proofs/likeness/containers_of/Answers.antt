use Rattle.std.proofs.Common.{◌≡◌, ◌<◌, ◌++◌, ◌∙◌, ap, sym, arith, length}
use Rattle.crp_order.specs.BayProblems.{standing}
use Rattle.crp_order.specs.Groups.{pointed}
use Rattle.crp_order.proofs.YardSteps.{AtBay, at_bay}
use Rattle.crp_order.proofs.AbsentSteps.{containers-more}
use Rattle.crp_order.proofs.likeness.containers_of.Goals as goal

pub loop-i-preserved : goal.loop-i-preserved
loop-i-preserved c =
    let low : c.loop-i.i < length c.args.yard.now.bays = omega (arith, c.count-i-end.ensures.value, c.loop-i-test.true) in
    let at : AtBay c.args.yard.now c.loop-i.i = at_bay c.args.yard.now c.loop-i.i low in
    let stacks : pointed c.deref.result.now ≡ at.bay.1 = ap pointed c.deref.ensures.value ∙ c.in_ok-stacks.ensures ∙ at.stacks in
    c.in_ok-add_bay.ensures
    ∙ ap (λ l. l ++ standing (pointed c.deref.result.now)) c.loop-i.invariant
    ∙ ap (λ s. Rattle.crp_yard.specs.Inventory.containers_of (Rattle.std.proofs.Common.take c.loop-i.i c.args.yard.now.bays) ++ standing s) stacks
    ∙ sym (containers-more c.args.yard.now.bays c.loop-i.i at.bay at.here)
