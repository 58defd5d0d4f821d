-- A tree as its symbols in a row, a branch before its trees; and the tree that symbols are those of.
use Rattle.std.specs.Prelude.{◌≡◌, ℕ, List, [], ◌∷◌, ◌++◌, length, take, drop}
use Rattle.std.proofs.Common.{refl, ap, sym, ◌∙◌, append_assoc, append-nil}
use Rattle.std.proofs.Math.Seq.{take-append_seam, drop-append_seam}
use Rattle.std.specs.Coded.{Coded, code_by, coded_list}
use Rattle.crp_row.specs.Symbol.{Symbol}
use Rattle.crp_row.specs.Symbol as symbol
use Rattle.crp_row.specs.Rows.{symbol_code}
use Rattle.crp_tree.specs.Tree.{Tree, CutB, CutL, CutR, Branch, Given, Trees, no_trees, one_and, items, row}

-- the symbols of a tree
abbrev mutual
  pub symbols : Tree → List Symbol
  symbols CutB = symbol.CutB ∷ []
  symbols CutL = symbol.CutL ∷ []
  symbols (CutR bound text) = symbol.CutR bound text ∷ []
  symbols (Branch trees) = symbol.Branch (length (items trees)) ∷ symbols_of_each trees
  symbols Given = symbol.Given ∷ []

  -- the symbols of trees, one tree after the other
  pub symbols_of_each : Trees → List Symbol
  symbols_of_each no_trees = []
  symbols_of_each (one_and tree trees) = symbols tree ++ symbols_of_each trees

-- the trees whose symbols these are, one after the other
abbrev pub trees_of : List Symbol → List Tree
trees_of [] = []
trees_of (symbol.CutB ∷ rest) = CutB ∷ trees_of rest
trees_of (symbol.CutL ∷ rest) = CutL ∷ trees_of rest
trees_of (symbol.CutR bound text ∷ rest) = CutR bound text ∷ trees_of rest
trees_of (symbol.Branch n ∷ rest) = Branch (row (take n (trees_of rest))) ∷ drop n (trees_of rest)
trees_of (symbol.Given ∷ rest) = Given ∷ trees_of rest

-- the first of some trees
abbrev first : List Tree → Tree
first [] = Given
first (tree ∷ trees) = tree

-- the tree whose symbols these are
abbrev pub tree_of : List Symbol → Tree
tree_of list = first (trees_of list)

row_items : (trees : Trees) → row (items trees) ≡ trees
row_items no_trees = refl
row_items (one_and tree trees) = ap (one_and tree) (row_items trees)

pub items_row : (trees : List Tree) → items (row trees) ≡ trees
items_row [] = refl
items_row (tree ∷ trees) = ap (λ l. tree ∷ l) (items_row trees)

mutual
  -- behind the symbols of a tree come those of the others
  pub trees_back : (tree : Tree) (rest : List Symbol) → trees_of (symbols tree ++ rest) ≡ tree ∷ trees_of rest
  trees_back CutB rest = refl
  trees_back CutL rest = refl
  trees_back (CutR bound text) rest = refl
  trees_back Given rest = refl
  trees_back (Branch trees) rest =
      ap (λ l. Branch (row (take (length (items trees)) l)) ∷ drop (length (items trees)) l) (each_back trees rest)
      ∙ ap (λ l. Branch (row l) ∷ drop (length (items trees)) (items trees ++ trees_of rest)) (take-append_seam (items trees) (trees_of rest))
      ∙ ap (λ l. Branch (row (items trees)) ∷ l) (drop-append_seam (items trees) (trees_of rest))
      ∙ ap (λ l. Branch l ∷ trees_of rest) (row_items trees)

  pub each_back : (trees : Trees) (rest : List Symbol) → trees_of (symbols_of_each trees ++ rest) ≡ items trees ++ trees_of rest
  each_back no_trees rest = refl
  each_back (one_and tree trees) rest =
      ap trees_of (append_assoc (symbols tree) (symbols_of_each trees) rest)
      ∙ trees_back tree (symbols_of_each trees ++ rest)
      ∙ ap (λ l. tree ∷ l) (each_back trees rest)

-- the symbols of a tree tell which it is
pub tree_back : (tree : Tree) → tree_of (symbols tree) ≡ tree
tree_back tree = ap (λ l. tree_of l) (sym (append-nil (symbols tree))) ∙ ap first (trees_back tree [])

-- also where others stand behind them
pub tree_front : (tree : Tree) (rest : List Symbol) → tree_of (symbols tree ++ rest) ≡ tree
tree_front tree rest = ap first (trees_back tree rest)

-- so a tree is stored as its symbols
abbrev pub tree_code : Coded Tree
tree_code = code_by (List Symbol) (coded_list symbol_code) symbols tree_of tree_back

-- the symbols of a tree are those of the tree that they tell
pub whole : (list : List Symbol) (tree : Tree) → list ≡ symbols tree → list ≡ symbols (tree_of list)
whole list tree is = is ∙ ap symbols (sym (tree_back tree)) ∙ ap (λ l. symbols (tree_of l)) (sym is)

-- ---- trees in a row of symbols

-- the symbols of trees, one tree after the other
abbrev pub all_symbols : List Tree → List Symbol
all_symbols [] = []
all_symbols (tree ∷ trees) = symbols tree ++ all_symbols trees

-- the first so many trees
abbrev pub some_trees : ℕ → List Symbol → List Tree
some_trees count list = take count (trees_of list)

-- a whole tree comes first, and then the rest
abbrev pub ComesFirst : List Symbol → List Symbol → Type 0
ComesFirst list rest = list ≡ symbols (tree_of list) ++ rest

-- so many whole trees come first, and then the rest
pub record ComeFirst (count : ℕ) (list rest : List Symbol) : Type 0 where
  pub many : length (some_trees count list) ≡ count
  pub symbols_are : list ≡ all_symbols (some_trees count list) ++ rest

-- ---- leaves

-- a symbol that is a whole tree by itself
abbrev pub IsLeaf : Symbol → Type 0
IsLeaf symbol.CutB = Unit {0}
IsLeaf symbol.CutL = Unit {0}
IsLeaf (symbol.CutR bound text) = Unit {0}
IsLeaf (symbol.Branch n) = ⊥
IsLeaf symbol.Given = Unit {0}

-- its tree
abbrev pub leaf : Symbol → Tree
leaf one = tree_of (one ∷ [])

pub leaf_symbols : (one : Symbol) → IsLeaf one → one ∷ [] ≡ symbols (leaf one)
leaf_symbols symbol.CutB is = refl
leaf_symbols symbol.CutL is = refl
leaf_symbols (symbol.CutR bound text) is = refl
leaf_symbols (symbol.Branch n) is = absurd is
leaf_symbols symbol.Given is = refl
