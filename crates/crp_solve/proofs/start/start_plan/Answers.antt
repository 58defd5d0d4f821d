use Rattle.crp_solve.proofs.Starting.{begins_within, greedy_begins}
use Rattle.crp_solve.proofs.start.start_plan.Goals as goal

pub returns-then-width-eq0-clause-begins : goal.returns-then-width-eq0-clause-begins
returns-then-width-eq0-clause-begins c =
    let greedy = c.first_plan-greedy.ensures in greedy_begins c.args.problem.now c.first_plan-greedy.result greedy.greedy greedy.none

pub returns-in-Ok-clause-begins : goal.returns-in-Ok-clause-begins
returns-in-Ok-clause-begins c =
    let greedy = c.first_plan-greedy.ensures in let beam = c.in-Ok.ensures in
    begins_within c.args.problem.now c.first_plan-greedy.result c.in-Ok.found beam.is_problem greedy.greedy greedy.none beam.plan beam.no_longer beam.none

pub returns-in-Err-clause-begins : goal.returns-in-Err-clause-begins
returns-in-Err-clause-begins c =
    let greedy = c.first_plan-greedy.ensures in greedy_begins c.args.problem.now c.first_plan-greedy.result greedy.greedy greedy.none
