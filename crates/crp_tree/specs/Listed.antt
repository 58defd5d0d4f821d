-- The trees of a branch as a list, one for each row.
use Rattle.std.specs.Prelude.{ℕ, List, [], ◌∷◌, ◌++◌, ⊤}
use Rattle.crp_tree.specs.Tree.{Tree}
use Rattle.crp_plan.specs.Bay.{Position}
use Rattle.crp_bay.specs.Positions.{child}
use Rattle.crp_tree.specs.Trees.{Node, nodes, Fits}

-- the nodes of the trees below each of the rows
abbrev pub nodes_below : List ℕ → Position → List ℕ → List Tree → List Node
nodes_below path s [] trees = []
nodes_below path s (row ∷ rows) [] = []
nodes_below path s (row ∷ rows) (tree ∷ trees) = nodes (path ++ row ∷ []) (child s row) tree ++ nodes_below path s rows trees

-- one tree for each row, which fits there
abbrev pub AreFit : Position → List ℕ → List Tree → Type 0
AreFit s [] [] = ⊤
AreFit s [] (tree ∷ trees) = ⊥
AreFit s (row ∷ rows) [] = ⊥
AreFit s (row ∷ rows) (tree ∷ trees) = Fits (child s row) tree × AreFit s rows trees
