-- Search trees over the paths of a problem.
use Rattle.std.specs.Prelude.{ℕ, List, [], ◌∷◌}

-- a search was cut by the blocking bound, by the look-ahead bound, or by reasons, which are to show so much and have a text; or it branched, with one tree
-- for each legal row, rising; or the subtree was given to a part of its own
mutual
  pub data Tree : Type 0 where
    CutB : Tree
    CutL : Tree
    CutR : ℕ → List ℕ → Tree
    Branch : Trees → Tree
    Given : Tree

  -- the trees of a branch
  pub data Trees : Type 0 where
    no_trees : Trees
    one_and : Tree → Trees → Trees

-- the trees of a branch as a list
abbrev pub items : Trees → List Tree
items no_trees = []
items (one_and tree trees) = tree ∷ items trees

-- and back
abbrev pub row : List Tree → Trees
row [] = no_trees
row (tree ∷ trees) = one_and tree (row trees)
