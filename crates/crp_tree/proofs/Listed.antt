-- The trees of a branch as a list, one for each row.
use Rattle.std.proofs.Common.{◌≡◌, ℕ, zero, suc, ◌≤◌, ◌<◌, ◌⊎◌, ⊎_elim, List, [], ◌∷◌, ◌++◌, length, take, drop, get_or, refl, sym, ap, ◌∙◌, subst, arith, append_assoc, append-nil, Contains, All}
use Rattle.std.proofs.lemmas.List.{drop_all}
use Rattle.std.proofs.lemmas.List.Elements.{All-contains, Contains-append_left, Contains-append_right}
use Rattle.crp_tree.specs.Tree.{Tree, CutB, CutL, CutR, Branch, Given, Trees, no_trees, one_and, items, row}
use Rattle.crp_plan.specs.Bay.{Position}
use Rattle.crp_bay.specs.Positions.{targets, child}
use Rattle.crp_tree.specs.Mark.{X}
use Rattle.crp_tree.specs.Trees.{Node, nodes, nodes_of_each, Fits, FitsEach}
use Rattle.crp_tree.specs.Listed.{nodes_below, AreFit}
use Rattle.crp_tree.specs.Symbols.{items_row}
use Rattle.crp_tree.proofs.InLine.{from_members}

-- it is a branch
abbrev pub IsBranch : Tree → Type 0
IsBranch CutB = ⊥
IsBranch CutL = ⊥
IsBranch (CutR bound text) = ⊥
IsBranch (Branch all) = Unit {0}
IsBranch Given = ⊥

-- the trees of a branch
abbrev pub trees_of : Tree → List Tree
trees_of CutB = []
trees_of CutL = []
trees_of (CutR bound text) = []
trees_of (Branch all) = items all
trees_of Given = []

pub list_fits : (s : Position) (rows : List ℕ) (all : Trees) → FitsEach s rows all → AreFit s rows (items all)
list_fits s [] no_trees h = tt
list_fits s [] (one_and tree trees) h = absurd h
list_fits s (row ∷ rows) no_trees h = absurd h
list_fits s (row ∷ rows) (one_and tree trees) h = (h.0, list_fits s rows trees h.1)

fits_list : (s : Position) (rows : List ℕ) (all : Trees) → AreFit s rows (items all) → FitsEach s rows all
fits_list s [] no_trees h = tt
fits_list s [] (one_and tree trees) h = absurd h
fits_list s (row ∷ rows) no_trees h = absurd h
fits_list s (row ∷ rows) (one_and tree trees) h = (h.0, fits_list s rows trees h.1)

pub list_nodes : (path : List ℕ) (s : Position) (rows : List ℕ) (all : Trees) → nodes_of_each path s rows all ≡ nodes_below path s rows (items all)
list_nodes path s [] no_trees = refl
list_nodes path s [] (one_and tree trees) = refl
list_nodes path s (row ∷ rows) no_trees = refl
list_nodes path s (row ∷ rows) (one_and tree trees) = ap (λ l. nodes (path ++ row ∷ []) (child s row) tree ++ l) (list_nodes path s rows trees)

-- the node of a branch
abbrev pub branch_node : List ℕ → Position → Node
branch_node path s = record { path = path; place = s; mark = X }

-- what a branch has, by the list of its trees
pub record IsBranchOf (tree : Tree) (trees : List Tree) : Type 0 where
  pub fits : (s : Position) → AreFit s (targets s) trees → Fits s tree
  pub fitting : (s : Position) → Fits s tree → AreFit s (targets s) trees
  pub nodes_are : (path : List ℕ) (s : Position) → nodes path s tree ≡ branch_node path s ∷ nodes_below path s (targets s) trees

by_trees : (tree : Tree) → IsBranch tree → IsBranchOf tree (trees_of tree)
by_trees CutB is = absurd is
by_trees CutL is = absurd is
by_trees (CutR bound text) is = absurd is
by_trees Given is = absurd is
by_trees (Branch all) is = record {
  fits = λ s h. fits_list s (targets s) all h;
  fitting = λ s h. list_fits s (targets s) all h;
  nodes_are = λ path s. ap (λ l. branch_node path s ∷ l) (list_nodes path s (targets s) all);
}

pub branch_of : (trees : List Tree) → IsBranchOf (Branch (row trees)) trees
branch_of trees = subst (IsBranchOf (Branch (row trees))) (items_row trees) (by_trees (Branch (row trees)) tt)

-- ---- tree after tree

-- without trees there is nothing
nodes_none : (path : List ℕ) (s : Position) (rows : List ℕ) → nodes_below path s rows [] ≡ []
nodes_none path s [] = refl
nodes_none path s (row ∷ rows) = refl

-- so many trees, and those after them
pub nodes_split : (path : List ℕ) (s : Position) (rows : List ℕ) (trees : List Tree) (i : ℕ) →
    nodes_below path s rows trees ≡ nodes_below path s (take i rows) (take i trees) ++ nodes_below path s (drop i rows) (drop i trees)
nodes_split path s rows trees zero = refl
nodes_split path s [] trees (suc i) = refl
nodes_split path s (row ∷ rows) [] (suc i) = sym (nodes_none path s (drop i rows))
nodes_split path s (row ∷ rows) (tree ∷ trees) (suc i) =
    ap (λ l. nodes (path ++ row ∷ []) (child s row) tree ++ l) (nodes_split path s rows trees i)
    ∙ sym (append_assoc (nodes (path ++ row ∷ []) (child s row) tree) (nodes_below path s (take i rows) (take i trees)) _)

-- after the last row or the last tree that is all
pub nodes_all : (path : List ℕ) (s : Position) (rows : List ℕ) (trees : List Tree) (i : ℕ) → (length rows ≤ i) ⊎ (length trees ≤ i) →
    nodes_below path s (take i rows) (take i trees) ≡ nodes_below path s rows trees
nodes_all path s rows trees i le =
    let rest : nodes_below path s (drop i rows) (drop i trees) ≡ [] = ⊎_elim
    (λ a. ap (λ l. nodes_below path s l (drop i trees)) (drop_all i rows a))
    (λ a. ap (nodes_below path s (drop i rows)) (drop_all i trees a) ∙ nodes_none path s (drop i rows))
    le in
    sym (nodes_split path s rows trees i ∙ ap (λ l. nodes_below path s (take i rows) (take i trees) ++ l) rest ∙ append-nil _)

-- one tree more comes behind those before it
nodes_more : (path : List ℕ) (s : Position) (rows : List ℕ) (trees : List Tree) (i a : ℕ) (d : Tree) → i < length rows → i < length trees →
    nodes_below path s (take (suc i) rows) (take (suc i) trees) ≡ nodes_below path s (take i rows) (take i trees) ++ nodes (path ++ get_or rows i a ∷ []) (child s (get_or rows i a)) (get_or trees i d)
nodes_more path s [] trees i a d lr lt = absurd (omega arith)
nodes_more path s (r ∷ rows) [] i a d lr lt = absurd (omega arith)
nodes_more path s (r ∷ rows) (t ∷ trees) zero a d lr lt = append-nil (nodes (path ++ r ∷ []) (child s r) t)
nodes_more path s (r ∷ rows) (t ∷ trees) (suc i) a d lr lt =
    ap (λ l. nodes (path ++ r ∷ []) (child s r) t ++ l) (nodes_more path s rows trees i a d (omega arith) (omega arith))
    ∙ sym (append_assoc (nodes (path ++ r ∷ []) (child s r) t) (nodes_below path s (take i rows) (take i trees)) _)

-- and so does one that is put behind them
pub nodes_push : (path : List ℕ) (s : Position) (rows : List ℕ) (trees : List Tree) (i a : ℕ) (tree : Tree) → i < length rows → length trees ≡ i →
    nodes_below path s (take (suc i) rows) (trees ++ tree ∷ []) ≡ nodes_below path s (take i rows) trees ++ nodes (path ++ get_or rows i a ∷ []) (child s (get_or rows i a)) tree
nodes_push path s [] trees i a tree lr lt = absurd (omega arith)
nodes_push path s (r ∷ rows) [] zero a tree lr lt = append-nil (nodes (path ++ r ∷ []) (child s r) tree)
nodes_push path s (r ∷ rows) [] (suc i) a tree lr lt = absurd (omega arith)
nodes_push path s (r ∷ rows) (t ∷ trees) zero a tree lr lt = absurd (omega arith)
nodes_push path s (r ∷ rows) (t ∷ trees) (suc i) a tree lr lt =
    ap (λ l. nodes (path ++ r ∷ []) (child s r) t ++ l) (nodes_push path s rows trees i a tree (omega arith) (omega arith))
    ∙ sym (append_assoc (nodes (path ++ r ∷ []) (child s r) t) (nodes_below path s (take i rows) trees) _)

-- a tree that fits at the next row is one more that fits
pub fit_push : (s : Position) (rows : List ℕ) (trees : List Tree) (i a : ℕ) (tree : Tree) → i < length rows → AreFit s (take i rows) trees → Fits (child s (get_or rows i a)) tree → AreFit s (take (suc i) rows) (trees ++ tree ∷ [])
fit_push s [] trees i a tree lr h f = absurd (omega arith)
fit_push s (r ∷ rows) [] zero a tree lr h f = (f, tt)
fit_push s (r ∷ rows) (t ∷ trees) zero a tree lr h f = absurd h
fit_push s (r ∷ rows) [] (suc i) a tree lr h f = absurd h
fit_push s (r ∷ rows) (t ∷ trees) (suc i) a tree lr h f = (h.0, fit_push s rows trees i a tree (omega arith) h.1 f)

-- of trees that fit, each fits at its row
fit_at : (s : Position) (rows : List ℕ) (trees : List Tree) (i a : ℕ) (d : Tree) → i < length trees → AreFit s rows trees → Fits (child s (get_or rows i a)) (get_or trees i d)
fit_at s [] [] i a d lt h = absurd (omega arith)
fit_at s [] (t ∷ trees) i a d lt h = absurd h
fit_at s (r ∷ rows) [] i a d lt h = absurd (omega arith)
fit_at s (r ∷ rows) (t ∷ trees) zero a d lt h = h.0
fit_at s (r ∷ rows) (t ∷ trees) (suc i) a d lt h = fit_at s rows trees i a d (omega arith) h.1

-- there are as many of them as rows
pub fit_lengths : (s : Position) (rows : List ℕ) (trees : List Tree) → AreFit s rows trees → length rows ≡ length trees
fit_lengths s [] [] h = refl
fit_lengths s [] (t ∷ trees) h = absurd h
fit_lengths s (r ∷ rows) [] h = absurd h
fit_lengths s (r ∷ rows) (t ∷ trees) h = ap suc (fit_lengths s rows trees h.1)

-- ---- the tree that a loop goes over

-- one of the trees below a path, with its row and where that leads
pub record Meets (path here : List ℕ) (s next : Position) (rows : List ℕ) (trees : List Tree) (i row : ℕ) (tree : Tree) : Type 0 where
  pub in_rows : i < length rows
  pub in_trees : i < length trees
  pub is_row : row ≡ get_or rows i 0
  pub is_next : next ≡ child s row
  pub is_here : here ≡ path ++ row ∷ []
  pub is_tree : tree ≡ get_or trees i tree

-- what holds of the tree at the index holds of it
met : (path here : List ℕ) (s next : Position) (rows : List ℕ) (trees : List Tree) (i row : ℕ) (tree : Tree) → Meets path here s next rows trees i row tree → (P : List ℕ → Position → Tree → Type 0) →
    P (path ++ get_or rows i 0 ∷ []) (child s (get_or rows i 0)) (get_or trees i tree) → P here next tree
met path here s next rows trees i row tree m P h =
    let a = subst (P (path ++ get_or rows i 0 ∷ []) (child s (get_or rows i 0))) (sym m.is_tree) h in
    let b = subst (λ r. P (path ++ r ∷ []) (child s r) tree) (sym m.is_row) a in
    subst (λ t. P here t tree) (sym m.is_next) (subst (λ l. P l (child s row) tree) (sym m.is_here) b)

-- it fits there
pub met_fits : (path here : List ℕ) (s next : Position) (rows : List ℕ) (trees : List Tree) (i row : ℕ) (tree : Tree) → Meets path here s next rows trees i row tree → AreFit s rows trees → Fits next tree
met_fits path here s next rows trees i row tree m h = met path here s next rows trees i row tree m (λ l t one. Fits t one) (fit_at s rows trees i 0 tree m.in_trees h)

-- its nodes come next
pub met_nodes : (path here : List ℕ) (s next : Position) (rows : List ℕ) (trees : List Tree) (i row : ℕ) (tree : Tree) → Meets path here s next rows trees i row tree →
    nodes_below path s (take (suc i) rows) (take (suc i) trees) ≡ nodes_below path s (take i rows) (take i trees) ++ nodes here next tree
met_nodes path here s next rows trees i row tree m =
    met path here s next rows trees i row tree m (λ l t one. nodes_below path s (take (suc i) rows) (take (suc i) trees) ≡ nodes_below path s (take i rows) (take i trees) ++ nodes l t one)
    (nodes_more path s rows trees i 0 tree m.in_rows m.in_trees)

-- what there is before that tree, what it has, and what comes after it
pub nodes_around : (path here : List ℕ) (s next : Position) (rows : List ℕ) (trees : List Tree) (i row : ℕ) (tree : Tree) → Meets path here s next rows trees i row tree →
    nodes_below path s rows trees ≡ nodes_below path s (take i rows) (take i trees) ++ (nodes here next tree ++ nodes_below path s (drop (suc i) rows) (drop (suc i) trees))
nodes_around path here s next rows trees i row tree m =
    nodes_split path s rows trees (suc i)
    ∙ ap (λ l. l ++ nodes_below path s (drop (suc i) rows) (drop (suc i) trees)) (met_nodes path here s next rows trees i row tree m)
    ∙ append_assoc (nodes_below path s (take i rows) (take i trees)) (nodes here next tree) _

-- what holds of all nodes holds of its own
pub met_all : (P : Node → Type 0) (path here : List ℕ) (s next : Position) (rows : List ℕ) (trees : List Tree) (i row : ℕ) (tree : Tree) → Meets path here s next rows trees i row tree → All P (nodes_below path s rows trees) → All P (nodes here next tree)
met_all P path here s next rows trees i row tree m h =
    let before = nodes_below path s (take i rows) (take i trees) in
    let after = nodes_below path s (drop (suc i) rows) (drop (suc i) trees) in
    from_members P (nodes here next tree) (λ n c. All-contains P (nodes_below path s rows trees) n h
    (subst (λ l. Contains l n) (sym (nodes_around path here s next rows trees i row tree m)) (Contains-append_right before (nodes here next tree ++ after) n (Contains-append_left (nodes here next tree) after n c))))
