use Rattle.std.proofs.Common.{◌++◌}
use Rattle.crp_plan.specs.Bay.{start}
use Rattle.crp_callers.specs.SmallBay.{small}
use Rattle.crp_callers.specs.SmallPlan.{small_plan, small_end}
use Rattle.crp_callers.specs.SmallReport.{leaving, staying, small_moves}
use Rattle.crp_callers.proofs.SmallPlans.{small_said}
use Rattle.crp_callers.proofs.tables.small_plan_is_followed.Goals as goal

pub returns : goal.returns
returns c = c.plans_are_followed.ensures (leaving ++ staying) (start small) small_end small_plan small_moves small_said
