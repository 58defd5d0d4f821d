use Rattle.std.proofs.Common.{[], ◌∷◌, false, refl, arith}
use Rattle.std.proofs.lemmas.Bool.{both_ways}
use Rattle.crp_search_tests.proofs.bounds.places_of_four.Goals as goal

pub returns-clause-no_place : goal.returns-clause-no_place
returns-clause-no_place c = (c.words_mean.ensures.no_place 4 1 0 (3 ∷ 3 ∷ 3 ∷ []) ((1 ∷ 4 ∷ []) ∷ (2 ∷ []) ∷ (3 ∷ []) ∷ []) (1 ∷ 4 ∷ []) 4 refl refl (omega arith)).0 refl

pub returns-clause-a_place : goal.returns-clause-a_place
returns-clause-a_place c = λ none. both_ways false refl ((c.words_mean.ensures.no_place 6 1 0 (3 ∷ 3 ∷ 3 ∷ []) ((1 ∷ 5 ∷ 4 ∷ []) ∷ (6 ∷ []) ∷ (3 ∷ 2 ∷ []) ∷ []) (1 ∷ 5 ∷ 4 ∷ []) 4 refl refl (omega arith)).1 none)

pub returns-clause-cut : goal.returns-clause-cut
returns-clause-cut c = c.words_mean.ensures.cut 4 (1 ∷ []) [] refl
