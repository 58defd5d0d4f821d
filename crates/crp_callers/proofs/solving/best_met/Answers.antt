use Rattle.std.proofs.lemmas.Result.{IfOk-weaker}
use Rattle.crp_solve.specs.Solved.{IsSolved}
use Rattle.crp_callers.proofs.BestMet.{best_met}
use Rattle.crp_callers.proofs.solving.best_met.Goals as goal

pub returns : goal.returns
returns c = IfOk-weaker c.solve_alone.result (IsSolved c.args.problem.now c.args.settings) _
    (λ s solved lower cert plan is. best_met c.args.problem.now c.args.settings s lower cert plan c.requires solved is) c.solve_alone.ensures.solved
