use Rattle.std.proofs.Common.{Some, subst}
use Rattle.crp_plan.specs.Bay.{Problem}
use Rattle.crp_tree.specs.Parts.{claimed}
use Rattle.crp_tree.specs.First.{IsFirstBest}
use Rattle.crp_callers.proofs.claims.first_plans.Goals as goal

pub returns-clause-one : goal.returns-clause-one
returns-clause-one c = λ claim other path again same first second.
    c.one_first_best.ensures other.problem path again (subst (λ (p : Problem). IsFirstBest p path) same (c.first_means.ensures claim path first))
    (c.first_means.ensures other again second)

pub returns-clause-met : goal.returns-clause-met
returns-clause-met c = λ p cert path about plan meet.
    c.first_means.ensures (claimed p cert (Some path)) path (c.firsts_are_accepted.ensures p cert path about plan meet)
