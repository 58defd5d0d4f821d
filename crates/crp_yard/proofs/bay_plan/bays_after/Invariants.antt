-- The bays so far are as the plans leave them.
use Rattle.std.proofs.Common.{take}
use Rattle.crp_yard.specs.After.{AreBaysAfter}
use Rattle.crp_yard.specs.PlansByBay.{plans_in}
use Rattle.crp_yard.proofs.bay_plan.bays_after.Given as goal

abbrev pub invariant-loop-i : goal.invariant-loop-i
invariant-loop-i l = AreBaysAfter (plans_in l.plans.entries) (take l.i l.yard.bays) l.bays.entries
