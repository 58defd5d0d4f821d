-- Worked trees, by the definitions.
use Rattle.std.proofs.Common.{◌≡◌, List, [], ◌∷◌, map, codes, refl}
use Rattle.std.specs.List.{flat_map}
use Rattle.crp_plan.specs.Bay.{Problem, Position, start, cap}
use Rattle.crp_bay.specs.Positions.{settled, targets}
use Rattle.crp_tree.specs.Tree.{CutB, CutL, Given, Trees, no_trees, one_and}
use Rattle.crp_tree.specs.Names.{Precedes}
use Rattle.crp_tree.specs.Trees.{Node, nodes_of_each, FitsEach, spelled, cuts, given_names, value, least_value}
use Rattle.crp_tree.proofs.Ordered.{less_means}

-- six containers in three rows of three tiers, and the position before the first relocation
abbrev six : Problem
six = record { heights = 3 ∷ 3 ∷ 3 ∷ []; ordered = 6; stacks = (1 ∷ 5 ∷ 4 ∷ []) ∷ (6 ∷ []) ∷ (3 ∷ 2 ∷ []) ∷ [] }

abbrev before : Position
before = settled (start six)

-- one row of three tiers, where the container that is to leave is buried
abbrev buried : Problem
buried = record { heights = 3 ∷ []; ordered = 2; stacks = (1 ∷ 2 ∷ []) ∷ [] }

-- a branch at the root has two trees, since its legal rows are 2 and 3
two_trees_fit : FitsEach before (targets before) (one_and CutL (one_and CutB no_trees))
two_trees_fit = (tt, (tt, tt))

-- three do not fit
three_do_not : FitsEach before (targets before) (one_and CutL (one_and CutB (one_and CutB no_trees))) → ⊥
three_do_not f = (f.1).1

-- nor does one
one_does_not : FitsEach before (targets before) (one_and CutL no_trees) → ⊥
one_does_not f = f.1

-- the nodes below the root
abbrev below_root : Trees → List Node
below_root all = nodes_of_each [] before (targets before) all

-- cut by the look-ahead bound below row 2 and by the blocking bound below row 3, it shows 3, and they are spelled L and B
cuts_of_three : map value (cuts (below_root (one_and CutL (one_and CutB no_trees)))) ≡ 3 ∷ 3 ∷ []
cuts_of_three = refl

spelled_as_two : flat_map (λ node. spelled node.mark) (below_root (one_and CutL (one_and CutB no_trees))) ≡ codes "LB"
spelled_as_two = refl

-- the blocking bound below row 2 gives 2 only
cut_of_two : least_value (cap six) (below_root (one_and CutB (one_and CutL no_trees))) ≡ 2
cut_of_two = refl

-- with both subtrees given away, the given names are 2 and 3
two_given : given_names (below_root (one_and Given (one_and Given no_trees))) ≡ (2 ∷ []) ∷ (3 ∷ []) ∷ []
two_given = refl

-- a branch at a dead end has no trees, and no cut, so it shows the cap
dead_end_shows_cap : least_value (cap buried) (nodes_of_each [] (settled (start buried)) (targets (settled (start buried))) no_trees) ≡ 5
dead_end_shows_cap = refl

-- the root comes first, 2 before 3, 3 before 3.2, and 3.2 before 12
root_first : Precedes [] (2 ∷ [])
root_first = less_means _ _ refl

two_before_three : Precedes (2 ∷ []) (3 ∷ [])
two_before_three = less_means _ _ refl

front_first : Precedes (3 ∷ []) (3 ∷ 2 ∷ [])
front_first = less_means _ _ refl

row_by_row : Precedes (3 ∷ 2 ∷ []) (12 ∷ [])
row_by_row = less_means _ _ refl
