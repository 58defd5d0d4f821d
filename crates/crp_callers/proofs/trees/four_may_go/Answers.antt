use Rattle.std.proofs.Common.{◌≡◌, ◌↔◌, ◌<◌, ℕ, zero, suc, [], ◌∷◌, Contains, refl, sym, subst, arith, slice_index_or}
use Rattle.crp_plan.specs.Bay.{IsProblem, IsAt, IsLegalRow}
use Rattle.crp_bay.specs.Positions.{child}
use Rattle.crp_tree.specs.Mark.{B, L, X}
use Rattle.crp_tree.specs.Trees.{Node, nodes}
use Rattle.crp_callers.specs.SmallBays.{bay_of_four, standing, first_of_four, two_cuts}
use Rattle.crp_callers.proofs.trees.four_may_go.Goals as goal

none_at_one : (k : ℕ) (node : Node) → k < 3 → slice_index_or (nodes [] first_of_four two_cuts) k node ≡ node → node.path ≡ 1 ∷ [] → ⊥
none_at_one zero node low is at_one = cc
none_at_one (suc zero) node low is at_one = cc
none_at_one (suc (suc zero)) node low is at_one = cc
none_at_one (suc (suc (suc k))) node low is at_one = absurd (omega arith)

abbrev NodeAt : ℕ → Type 0
NodeAt row = (node : Node) × Contains (nodes [] first_of_four two_cuts) node × (node.path ≡ row ∷ [])

below : (c : goal.After-nodes_of_trees) (row : ℕ) → NodeAt row ↔ IsLegalRow bay_of_four [] row
below c row =
    let is = subst IsProblem c.requires c.rows-rows.ensures.problem in
    c.nodes_of_trees.ensures.below bay_of_four [] first_of_four two_cuts (record { path = []; place = first_of_four; mark = X }) row is (c.walks.ensures.begins bay_of_four is) (tt, (tt, tt)) (0, omega arith, refl) refl

pub returns-clause-two : goal.returns-clause-two
returns-clause-two c =
    subst (λ p. IsLegalRow p [] 2) (sym c.requires) ((below c 2).0 (record { path = 2 ∷ []; place = child first_of_four 2; mark = B }, (1, omega arith, refl), refl))

pub returns-clause-three : goal.returns-clause-three
returns-clause-three c =
    subst (λ p. IsLegalRow p [] 3) (sym c.requires) ((below c 3).0 (record { path = 3 ∷ []; place = child first_of_four 3; mark = L }, (2, omega arith, refl), refl))

pub returns-clause-not_one : goal.returns-clause-not_one
returns-clause-not_one c = λ legal.
    let node = (below c 1).1 (subst (λ p. IsLegalRow p [] 1) c.requires legal) in
    none_at_one node.1.0 node.0 node.1.1 node.1.2 node.2

pub returns-clause-on_two : goal.returns-clause-on_two
returns-clause-on_two c =
    let is = subst IsProblem c.requires c.rows-rows.ensures.problem in
    let law = c.nodes_of_trees.ensures.at bay_of_four [] first_of_four two_cuts is (c.walks.ensures.begins bay_of_four is) in
    subst (λ p. IsAt p (2 ∷ []) (standing 4 2 ([] ∷ (2 ∷ 4 ∷ []) ∷ (3 ∷ []) ∷ []))) (sym c.requires) (law 1 (record { path = []; place = first_of_four; mark = X }) (omega arith))
