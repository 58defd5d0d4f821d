use Rattle.std.proofs.Common.{List, ℕ, ◌+◌, ◌≤◌, length, sym, subst, arith}
use Rattle.std.proofs.lemmas.List.Elements.{All-contains}
use Rattle.crp_plan.specs.Bay.{IsAt}
use Rattle.crp_bounds.specs.Bounds.{look_ahead}
use Rattle.crp_tree.specs.Trees.{Node, least_through}
use Rattle.crp_tree.specs.Parts.{nodes_of}
use Rattle.crp_callers.proofs.claims.each_node.Goals as goal

pub returns-clause-stands : goal.returns-clause-stands
returns-clause-stands c = λ x node kept there.
    All-contains (λ (n : Node). IsAt x.problem n.path n.place) (nodes_of x) node (c.nodes_of_parts.ensures.at x kept) there

pub returns-clause-bounded : goal.returns-clause-bounded
returns-clause-bounded c = λ x s node kept root at there.
    let low = c.nodes_of_parts.ensures.higher x s kept (subst (λ (name : List ℕ). IsAt x.problem name s) (sym root) at) in
    omega (arith, All-contains (λ (n : Node). length x.name + look_ahead s ≤ least_through n) (nodes_of x) node low there)
