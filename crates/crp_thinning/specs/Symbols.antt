-- The symbols of a tree with thinned branches, and what they show at a thinned position.
use Rattle.std.specs.Prelude.{◌≡◌, ℕ, ◌≤◌, List, [], ◌∷◌, ◌++◌, codes}
use Rattle.std.specs.Fmt.{decimal}
use Rattle.crp_plan.specs.Bay.{Position}
use Rattle.crp_thinned.specs.Tree.{Tree, CutB, CutL, CutT, Branch, Thin, Free, Given, Trees, no_trees, one_and}
use Rattle.crp_thinned.specs.Thinned.{FitsThinned, shown}

-- the ranks of a chain, with points between them
abbrev pub chain_text : List ℕ → List ℕ
chain_text [] = []
chain_text (rank ∷ []) = decimal rank
chain_text (rank ∷ other ∷ ranks) = decimal rank ++ codes "." ++ chain_text (other ∷ ranks)

-- the chains of a family, with commas between them, and its end
abbrev pub family_text : List (List ℕ) → List ℕ
family_text [] = codes ";"
family_text (chain ∷ []) = chain_text chain ++ codes ";"
family_text (chain ∷ other ∷ family) = chain_text chain ++ codes "," ++ family_text (other ∷ family)

-- a branch before its trees: B is a cut by the blocking bound, L a cut by the look-ahead bound, T with a family a cut by its chains, X a branch, R a thinned
-- branch, F a branch with one tree, G a subtree that is given to a part of its own
abbrev mutual
  pub symbols_of : Tree → List ℕ
  symbols_of CutB = codes "B"
  symbols_of CutL = codes "L"
  symbols_of (CutT family) = codes "T" ++ family_text family
  symbols_of (Branch all) = codes "X" ++ symbols_of_each all
  symbols_of (Thin all) = codes "R" ++ symbols_of_each all
  symbols_of (Free tree) = codes "F" ++ symbols_of tree
  symbols_of Given = codes "G"

  -- the symbols of the trees of a branch, one tree after the other
  pub symbols_of_each : Trees → List ℕ
  symbols_of_each no_trees = []
  symbols_of_each (one_and tree trees) = symbols_of tree ++ symbols_of_each trees

-- the text is the symbols of a tree that fits at the thinned position and shows at least so much
pub record Closes (s : Position) (need : ℕ) (text : List ℕ) : Type 0 where
  pub tree : Tree
  pub fits : FitsThinned s tree
  pub reaches : need ≤ shown s tree
  pub is_text : text ≡ symbols_of tree
