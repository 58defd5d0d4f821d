use Rattle.std.proofs.Common.{[], refl}
use Rattle.crp_plan.specs.Bay.{path_of}
use Rattle.crp_callers.proofs.ways.plans_begin.Goals as goal

pub returns-clause-legally : goal.returns-clause-legally
returns-clause-legally c = λ p s moves is at unfinished plan. c.plans_branch.ensures.goes_on p [] (path_of moves) s moves is at unfinished plan refl

pub returns-clause-nowhere : goal.returns-clause-nowhere
returns-clause-nowhere c = λ p s moves is at finished plan. c.plans_branch.ensures.ends p [] (path_of moves) s moves is at finished plan refl
