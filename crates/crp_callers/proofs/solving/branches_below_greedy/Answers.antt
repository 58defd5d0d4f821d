use Rattle.std.proofs.Common.{◌<◌, All, length, refl, subst, inl}
use Rattle.crp_tree.specs.Trees.{least_through}
use Rattle.crp_tree.specs.Parts.{branches_in}
use Rattle.crp_callers.proofs.solving.branches_below_greedy.Goals as goal

pub returns : goal.returns
returns c = λ p budget expanded plan cert path is answer greedy.
    let same = c.one_first_limit.ensures p answer.needed.first (length path) is answer.needed.is_first (inl (path, greedy, refl)) in
    subst (λ limit. All (λ part. All (λ node. least_through node < limit) (branches_in part)) cert.parts) same answer.needed.below
