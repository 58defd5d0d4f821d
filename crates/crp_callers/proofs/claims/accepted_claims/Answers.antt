use Rattle.std.proofs.Common.{sym, subst, arith}
use Rattle.crp_plan.specs.Bay.{IsBest}
use Rattle.crp_callers.proofs.claims.accepted_claims.Goals as goal

pub returns-clause-bound : goal.returns-clause-bound
returns-clause-bound c = λ claim moves accepted plan nothing. omega (arith, c.accepted_means.ensures.bound claim moves accepted plan, nothing)

pub returns-clause-no_plan : goal.returns-clause-no_plan
returns-clause-no_plan c = λ claim moves accepted at_cap plan. c.accepted_means.ensures.no_plan claim moves accepted at_cap plan

pub returns-clause-best : goal.returns-clause-best
returns-clause-best c = λ claim rows accepted is_plan as_many.
    subst (IsBest claim.problem) as_many (c.accepted_means.ensures.best claim rows accepted is_plan (sym as_many))
