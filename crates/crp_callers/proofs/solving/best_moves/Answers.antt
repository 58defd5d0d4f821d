use Rattle.std.proofs.Common.{subst, arith}
use Rattle.crp_plan.specs.Bay.{IsPlan}
use Rattle.crp_callers.proofs.solving.best_moves.Goals as goal

pub returns-clause-complete : goal.returns-clause-complete
returns-clause-complete c =
    let known = c.in-Some.ensures c.args.problem.now c.in_ok-solved.ensures.solved.answer.says in
    subst (λ p. IsPlan p c.in_ok-moves.moves.items) known.0.of_problem c.in_ok-moves.ensures.plan

pub returns-clause-fewest : goal.returns-clause-fewest
returns-clause-fewest c = λ others plan.
    let known = c.in-Some.ensures c.args.problem.now c.in_ok-solved.ensures.solved.answer.says in
    omega (arith, known.1.least others plan, c.count-count.ensures.value, c.count-count.ensures.relocations c.in_ok-moves.moves.items c.in_ok-moves.ensures.path)
