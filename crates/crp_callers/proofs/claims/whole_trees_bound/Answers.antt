use Rattle.std.proofs.Common.{◌≡◌, ◌≤◌, ℕ, List, [], Contains, refl, subst}
use Rattle.crp_bay.proofs.Members.{not_in_nil}
use Rattle.crp_plan.specs.declared.moves.Move.{Move}
use Rattle.crp_plan.specs.Bay.{Problem, IsPlan, cap, path_of, relocations}
use Rattle.crp_tree.specs.Trees.{nodes, given_names, least_value, Shows}
use Rattle.crp_callers.proofs.claims.whole_trees_bound.Goals as goal

-- what is shown at the root, with nothing given away, holds of every plan
of_all : (p : Problem) (given : List (List ℕ)) (floor : ℕ) (moves : List Move) → given ≡ [] → Shows p [] given floor → IsPlan p moves → floor ≤ relocations moves
of_all p given floor moves none shows plan =
    shows moves plan (path_of moves, refl) (λ g there begins. not_in_nil g (subst (λ (gs : List (List ℕ)). Contains gs g) none there))

pub returns-clause-least : goal.returns-clause-least
returns-clause-least c = λ p s tree moves is at shape none plan.
    of_all p (given_names (nodes [] s tree)) (least_value (cap p) (nodes [] s tree)) moves none (c.trees_show.ensures.least p [] s tree is at shape) plan

pub returns-clause-floor : goal.returns-clause-floor
returns-clause-floor c = λ p s tree floor moves is at shape none cuts within plan.
    of_all p (given_names (nodes [] s tree)) floor moves none (c.trees_show.ensures.floor p [] s tree floor is at shape cuts within) plan
