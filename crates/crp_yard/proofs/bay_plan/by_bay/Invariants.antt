-- The plans so far are kept by their bays.
use Rattle.std.proofs.Common.{take}
use Rattle.crp_yard.proofs.AfterSteps.{ArePlansSoFar}
use Rattle.crp_yard.proofs.bay_plan.by_bay.Given as goal

abbrev pub invariant-loop-plan : goal.invariant-loop-plan
invariant-loop-plan l = ArePlansSoFar (take l.plan-index l.plans) l.by_bay.entries
