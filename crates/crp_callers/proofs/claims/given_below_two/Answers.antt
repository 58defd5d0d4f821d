use Rattle.std.proofs.Common.{[], ◌∷◌, ◌++◌, refl}
use Rattle.crp_callers.proofs.claims.given_below_two.Goals as goal

pub returns-clause-below : goal.returns-clause-below
returns-clause-below c = λ s tree given shape there.
    (c.names_given.ensures.goes_on (2 ∷ []) s tree given shape there, c.names_given.ensures.short (2 ∷ []) s tree given shape there)

pub returns-clause-paths : goal.returns-clause-paths
returns-clause-paths c = λ p s tree given is at there. c.names_given.ensures.path p (2 ∷ []) s tree given is at there

pub returns-clause-rising : goal.returns-clause-rising
returns-clause-rising c = λ s tree. c.names_given.ensures.rising (2 ∷ []) s tree

pub returns-clause-apart : goal.returns-clause-apart
returns-clause-apart c = λ s tree given more there also. c.names_given.ensures.apart (2 ∷ []) s tree (given ++ more) given also there (more, refl)
