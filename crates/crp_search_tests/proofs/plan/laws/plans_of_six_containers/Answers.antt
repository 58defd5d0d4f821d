use Rattle.std.proofs.Common.{arith}
use Rattle.crp_plan.proofs.Worked.{six, plan_of_six, six_is_problem, six_has_plan}
use Rattle.crp_search_tests.proofs.plan.laws.plans_of_six_containers.Goals as goal

pub returns-clause-problem : goal.returns-clause-problem
returns-clause-problem c = six_is_problem

pub returns-clause-plan : goal.returns-clause-plan
returns-clause-plan c = six_has_plan

pub returns-clause-few : goal.returns-clause-few
returns-clause-few c = λ moves plan. let below = c.few_relocations.ensures.plan six moves six_is_problem plan in omega arith

pub returns-clause-one : goal.returns-clause-one
returns-clause-one c = λ moves plan path. c.path_decides.ensures.plan six moves plan_of_six six_is_problem plan six_has_plan path
