use Rattle.std.proofs.Common.{[], ◌∷◌, refl}
use Rattle.crp_callers.proofs.claims.needs_of_cuts.Goals as goal

pub returns-clause-enough : goal.returns-clause-enough
returns-clause-enough c = λ plan cut high. c.needs_pass_on.ensures.above 2 plan cut high

pub returns-clause-earlier : goal.returns-clause-earlier
returns-clause-earlier c = λ cut meets.
    c.needs_pass_on.ensures.earlier 2 (3 ∷ 1 ∷ []) (2 ∷ 3 ∷ []) cut ((c.names_are_ordered.ensures.compared (2 ∷ 3 ∷ []) (3 ∷ 1 ∷ [])).0 refl) meets
