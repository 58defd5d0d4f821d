use Rattle.std.proofs.Common.{[], ◌∷◌, refl}
use Rattle.crp_callers.proofs.trees.names_compared.Goals as goal

pub returns-clause-goes_on : goal.returns-clause-goes_on
returns-clause-goes_on c = (c.names_are_ordered.ensures.compared (2 ∷ []) (2 ∷ 1 ∷ [])).0 refl

pub returns-clause-lower : goal.returns-clause-lower
returns-clause-lower c = (c.names_are_ordered.ensures.compared (2 ∷ 1 ∷ []) (3 ∷ [])).0 refl

pub returns-clause-not_higher : goal.returns-clause-not_higher
returns-clause-not_higher c = λ before. let less = (c.names_are_ordered.ensures.compared (3 ∷ []) (2 ∷ 1 ∷ [])).1 before in cc

pub returns-clause-not_shorter : goal.returns-clause-not_shorter
returns-clause-not_shorter c = λ before. let less = (c.names_are_ordered.ensures.compared (2 ∷ 1 ∷ []) (2 ∷ [])).1 before in cc
