use Rattle.crp_yard.proofs.AfterSteps.{one_plan_more}
use Rattle.crp_yard.proofs.bay_plan.by_bay.Goals as goal

pub loop-plan-preserved : goal.loop-plan-preserved
loop-plan-preserved c =
    one_plan_more c.args.plans.now c.loop-plan.plan-index c.loop-plan.by_bay c.insert.new.self.entries c.copy.result _ c.in_ok-insert.ensures.entries
    c.copy.ensures c.requires c.loop-plan-test.true c.plan-item.is c.loop-plan.invariant
