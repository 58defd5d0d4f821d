use Rattle.std.proofs.Common.{IfSome, sym, subst}
use Rattle.crp_search.specs.Beam.{IsNoLonger}
use Rattle.crp_search.proofs.NoLonger.{shorter_no_longer}
use Rattle.crp_search.proofs.beam.beam_plan.Goals as goal

pub returns-clause-no_longer : goal.returns-clause-no_longer
returns-clause-no_longer c =
    subst (λ found. IfSome found (λ plan. IsNoLonger c.args.problem.now plan.path)) (sym c.shorter_of.ensures)
    (shorter_no_longer c.args.problem.now c.first_plan-first.result c.in_ok-met.met c.completed.ensures.is_problem c.first_plan-first.ensures.greedy c.first_plan-first.ensures.none)
