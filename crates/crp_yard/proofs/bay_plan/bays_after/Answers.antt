use Rattle.crp_yard.specs.PlansByBay.{plans_in}
use Rattle.crp_yard.proofs.AfterSteps.{after_next}
use Rattle.crp_yard.proofs.bay_plan.bays_after.Goals as goal

pub loop-i-preserved : goal.loop-i-preserved
loop-i-preserved c =
    after_next (plans_in c.args.plans.now.entries) c.args.yard.now.bays c.loop-i.i (c.bay.result.0.now, c.bay.result.1.now) c.loop-i.bays c.in_ok-left.left c.insert.new.self.entries
    c.count-i-end.ensures.yard.bays_once c.bay.ensures.value c.loop-i.invariant c.in_ok-left.ensures (rw (← c.copy.ensures) c.in_ok-insert.ensures.entries)
