use Rattle.crp_plan.proofs.OneFault.{one_problem_fault, one_plan_fault}
use Rattle.crp_plan.proofs.laws.one_fault.Goals as goal

pub returns : goal.returns
returns c = record { statement = one_problem_fault; path = one_plan_fault }
