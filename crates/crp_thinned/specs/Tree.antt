-- Search trees with thinned branches.
use Rattle.std.specs.Prelude.{ℕ, List}

-- a search was cut by the blocking bound, by the look-ahead bound, or by the chains of a family, which is given by their ranks; or it branched, with
-- one tree for each legal row, rising; or it thinned out, with one tree for each legal row where the blocker is well placed, rising, and a last one
-- for all rows where it is badly placed: there it is lifted out of the bay; or it went on with one tree, for the first legal row where the blocker
-- hinders nobody; or the subtree was given to a part of its own
mutual
  pub data Tree : Type 0 where
    CutB : Tree
    CutL : Tree
    CutT : List (List ℕ) → Tree
    Branch : Trees → Tree
    Thin : Trees → Tree
    Free : Tree → Tree
    Given : Tree

  -- the trees of a branch
  pub data Trees : Type 0 where
    no_trees : Trees
    one_and : Tree → Trees → Trees
