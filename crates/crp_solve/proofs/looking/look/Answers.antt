use Rattle.std.proofs.Common.{rules}
use Rattle.crp_solve.proofs.Within.{look_serves}
use Rattle.crp_solve.proofs.looking.look.Goals as goal

pub returns-clause-solved : goal.returns-clause-solved
returns-clause-solved g c =
    look_serves c.args.problem.now c.args.settings c.for_one-few.result _ c.budget-else-ran_short.result c.budget-else-ran_short-2.result c.in-Ok.solved c.for_one-few.ensures.value
    c.budget-else-ran_short.ensures.value c.budget-else-ran_short-2.ensures.value (c.serves.ensures (search rules)) c.in-Ok.ensures.solved
