use Rattle.std.proofs.Common.{[], ◌∷◌}
use Rattle.std.proofs.lemmas.List.Elements.{All-from_recursion}
use Rattle.crp_yard.specs.After.{IsCompletePlan}
use Rattle.crp_callers.specs.TwoBays.{two_bays, plan_for_first}
use Rattle.crp_callers.proofs.Planned.{is_complete, leaves_this}
use Rattle.crp_callers.proofs.yards.yard_after_a_plan.Goals as goal

pub returns-clause-left : goal.returns-clause-left
returns-clause-left c = c.plans_leave_a_yard.ensures two_bays (plan_for_first ∷ []) (All-from_recursion IsCompletePlan (plan_for_first ∷ []) (is_complete, tt))

pub returns-clause-one : goal.returns-clause-one
returns-clause-one c = leaves_this c.path_decides.ensures.plan c.one_kind.ensures.one_end
