-- Symbols that pay all that is owed at a spot are those of a tree that fits there.
use Rattle.std.proofs.Common.{◌≡◌, ℕ, suc, List, [], ◌∷◌, ◌++◌, length, refl, sym, ap, ◌∙◌, subst, append_assoc, append-nil}
use Rattle.crp_plan.specs.Bay.{Position}
use Rattle.crp_bay.specs.Positions.{targets, child}
use Rattle.crp_row.specs.Symbol.{Symbol}
use Rattle.crp_row.specs.Symbol as symbol
use Rattle.crp_tree.specs.Tree.{Tree, CutB, CutL, CutR, Branch, Given, items, row}
use Rattle.crp_tree.specs.Symbols.{symbols, symbols_of_each, items_row, all_symbols, IsLeaf, leaf}
use Rattle.crp_tree.specs.Mark.{B, L, R, X, G}
use Rattle.crp_tree.specs.Trees.{Node, nodes, Fits}
use Rattle.crp_tree.specs.Spots.{Spot, node_at, spots_below, mark_of, owed_behind, Pay, nodes_of_all, FitsAt, Leaves, nodes_by}
use Rattle.crp_tree.specs.Listed.{nodes_below, AreFit}
use Rattle.crp_tree.proofs.Listed.{IsBranchOf, branch_of}

-- ---- trees at spots

pub row_symbols : (trees : List Tree) → symbols_of_each (row trees) ≡ all_symbols trees
row_symbols [] = refl
row_symbols (tree ∷ trees) = ap (λ l. symbols tree ++ l) (row_symbols trees)

pub symbols_joined : (first second : List Tree) → all_symbols (first ++ second) ≡ all_symbols first ++ all_symbols second
symbols_joined [] second = refl
symbols_joined (tree ∷ first) second = ap (λ l. symbols tree ++ l) (symbols_joined first second) ∙ sym (append_assoc (symbols tree) (all_symbols first) (all_symbols second))

-- trees at two lists of spots are those at the first and those at the second
pub record Split (owed others : List Spot) (trees : List Tree) : Type 0 where
  pub first : List Tree
  pub second : List Tree
  pub are : trees ≡ first ++ second
  pub pays : Pay owed first
  pub pays_others : Pay others second

pub split : (owed others : List Spot) (trees : List Tree) → Pay (owed ++ others) trees → Split owed others trees
split [] others trees h = record { first = []; second = trees; are = refl; pays = tt; pays_others = h }
split (spot ∷ owed) others [] h = absurd h
split (spot ∷ owed) others (tree ∷ trees) h =
    let r = split owed others trees h.1 in
    record { first = tree ∷ r.first; second = r.second; are = ap (λ l. tree ∷ l) r.are; pays = (h.0, r.pays); pays_others = r.pays_others }

pub nodes_joined : (owed others : List Spot) (first second : List Tree) → Pay owed first → nodes_of_all (owed ++ others) (first ++ second) ≡ nodes_of_all owed first ++ nodes_of_all others second
nodes_joined [] others [] second h = refl
nodes_joined [] others (tree ∷ first) second h = absurd h
nodes_joined (spot ∷ owed) others [] second h = absurd h
nodes_joined (spot ∷ owed) others (tree ∷ first) second h =
    ap (λ l. nodes spot.path spot.place tree ++ l) (nodes_joined owed others first second h.1) ∙ sym (append_assoc (nodes spot.path spot.place tree) (nodes_of_all owed first) (nodes_of_all others second))

pub rows_fit : (path : List ℕ) (s : Position) (rows : List ℕ) (trees : List Tree) → Pay (spots_below path s rows) trees → AreFit s rows trees
rows_fit path s [] [] h = tt
rows_fit path s [] (tree ∷ trees) h = absurd h
rows_fit path s (r ∷ rows) [] h = absurd h
rows_fit path s (r ∷ rows) (tree ∷ trees) h = (h.0, rows_fit path s rows trees h.1)

as_many : (path : List ℕ) (s : Position) (rows : List ℕ) (trees : List Tree) → Pay (spots_below path s rows) trees → length rows ≡ length trees
as_many path s [] [] h = refl
as_many path s [] (tree ∷ trees) h = absurd h
as_many path s (r ∷ rows) [] h = absurd h
as_many path s (r ∷ rows) (tree ∷ trees) h = ap suc (as_many path s rows trees h.1)

pub nodes_of_rows : (path : List ℕ) (s : Position) (rows : List ℕ) (trees : List Tree) → nodes_below path s rows trees ≡ nodes_of_all (spots_below path s rows) trees
nodes_of_rows path s [] trees = refl
nodes_of_rows path s (r ∷ rows) [] = refl
nodes_of_rows path s (r ∷ rows) (tree ∷ trees) = ap (λ l. nodes (path ++ r ∷ []) (child s r) tree ++ l) (nodes_of_rows path s rows trees)

-- ---- symbols that pay

-- the trees that symbols pay
record Paid (owed : List Spot) (list : List Symbol) : Type 0 where
  trees : List Tree
  at : Pay owed trees
  symbols_are : list ≡ all_symbols trees
  nodes_are : nodes_by owed list ≡ nodes_of_all owed trees

branch_paid : (n : ℕ) (spot : Spot) (owed : List Spot) (list : List Symbol) → n ≡ length (targets spot.place) → (r : Paid (spots_below spot.path spot.place (targets spot.place) ++ owed) list) →
    Split (spots_below spot.path spot.place (targets spot.place)) owed r.trees → Paid (spot ∷ owed) (symbol.Branch n ∷ list)
branch_paid n spot owed list counts r k =
    let below : List Spot = spots_below spot.path spot.place (targets spot.place) in
    let branch : IsBranchOf (Branch (row k.first)) k.first = branch_of k.first in
    let many : n ≡ length (items (row k.first)) = counts ∙ as_many spot.path spot.place (targets spot.place) k.first k.pays ∙ ap length (sym (items_row k.first)) in
    let text : list ≡ symbols_of_each (row k.first) ++ all_symbols k.second =
    r.symbols_are ∙ ap all_symbols k.are ∙ symbols_joined k.first k.second ∙ ap (λ l. l ++ all_symbols k.second) (sym (row_symbols k.first)) in
    record {
      trees = Branch (row k.first) ∷ k.second;
      at = (branch.fits spot.place (rows_fit spot.path spot.place (targets spot.place) k.first k.pays), k.pays_others);
      symbols_are = ap (λ m. symbol.Branch m ∷ list) many ∙ ap (λ l. symbol.Branch (length (items (row k.first))) ∷ l) text;
      nodes_are =
          ap (λ l. node_at spot X ∷ l) (r.nodes_are ∙ ap (nodes_of_all (below ++ owed)) k.are ∙ nodes_joined below owed k.first k.second k.pays
          ∙ ap (λ l. l ++ nodes_of_all owed k.second) (sym (nodes_of_rows spot.path spot.place (targets spot.place) k.first)))
          ∙ ap (λ l. l ++ nodes_of_all owed k.second) (sym (branch.nodes_are spot.path spot.place));
    }

one_paid : (one : Symbol) (spot : Spot) (owed : List Spot) (list : List Symbol) → FitsAt one spot → Paid (owed_behind (mark_of one) spot owed) list → Paid (spot ∷ owed) (one ∷ list)
one_paid symbol.CutB spot owed list counts r = record { trees = CutB ∷ r.trees; at = (tt, r.at); symbols_are = ap (λ l. symbol.CutB ∷ l) r.symbols_are; nodes_are = ap (λ l. node_at spot B ∷ l) r.nodes_are }
one_paid symbol.CutL spot owed list counts r = record { trees = CutL ∷ r.trees; at = (tt, r.at); symbols_are = ap (λ l. symbol.CutL ∷ l) r.symbols_are; nodes_are = ap (λ l. node_at spot L ∷ l) r.nodes_are }
one_paid (symbol.CutR bound text) spot owed list counts r = record { trees = CutR bound text ∷ r.trees; at = (counts, r.at); symbols_are = ap (λ l. symbol.CutR bound text ∷ l) r.symbols_are; nodes_are = ap (λ l. node_at spot (R bound text) ∷ l) r.nodes_are }
one_paid (symbol.Branch n) spot owed list counts r = branch_paid n spot owed list counts r (split (spots_below spot.path spot.place (targets spot.place)) owed r.trees r.at)
one_paid symbol.Given spot owed list counts r = record { trees = Given ∷ r.trees; at = (tt, r.at); symbols_are = ap (λ l. symbol.Given ∷ l) r.symbols_are; nodes_are = ap (λ l. node_at spot G ∷ l) r.nodes_are }

paid : (owed : List Spot) (list : List Symbol) → Leaves owed list [] → Paid owed list
paid owed [] none = subst (λ o. Paid o []) (sym none) (record { trees = []; at = tt; symbols_are = refl; nodes_are = refl })
paid [] (one ∷ list) h = absurd h
paid (spot ∷ owed) (one ∷ list) h = one_paid one spot owed list h.0 (paid (owed_behind (mark_of one) spot owed) list h.1)

-- ---- from the first symbol of a tree on

-- symbols from a spot on stand for these nodes, and leave trees that are owed
pub record IsWalked (top : Spot) (list : List Symbol) (met : List Node) (owed : List Spot) : Type 0 where
  pub leaves : Leaves (top ∷ []) list owed
  pub nodes_are : nodes_by (top ∷ []) list ≡ met

-- before the first symbol the tree is owed
pub walk_begins : (top : Spot) → IsWalked top [] [] (top ∷ [])
walk_begins top = record { leaves = refl; nodes_are = refl }

leaves_more : (from : List Spot) (list : List Symbol) (spot : Spot) (owed : List Spot) (one : Symbol) → Leaves from list (spot ∷ owed) → FitsAt one spot → Leaves from (list ++ one ∷ []) (owed_behind (mark_of one) spot owed)
leaves_more from [] spot owed one h counts = subst (λ f. Leaves f (one ∷ []) (owed_behind (mark_of one) spot owed)) (sym h) (counts, refl)
leaves_more [] (first ∷ list) spot owed one h counts = absurd h
leaves_more (f ∷ from) (first ∷ list) spot owed one h counts = (h.0, leaves_more (owed_behind (mark_of first) f from) list spot owed one h.1 counts)

nodes_more : (from : List Spot) (list : List Symbol) (spot : Spot) (owed : List Spot) (one : Symbol) → Leaves from list (spot ∷ owed) → nodes_by from (list ++ one ∷ []) ≡ nodes_by from list ++ node_at spot (mark_of one) ∷ []
nodes_more from [] spot owed one h = ap (λ f. nodes_by f (one ∷ [])) h
nodes_more [] (first ∷ list) spot owed one h = absurd h
nodes_more (f ∷ from) (first ∷ list) spot owed one h = ap (λ l. node_at f (mark_of first) ∷ l) (nodes_more (owed_behind (mark_of first) f from) list spot owed one h.1)

-- one symbol more
pub walk_more : (top : Spot) (list : List Symbol) (met : List Node) (spot : Spot) (owed : List Spot) (one : Symbol) → IsWalked top list met (spot ∷ owed) → FitsAt one spot →
    IsWalked top (list ++ one ∷ []) (met ++ node_at spot (mark_of one) ∷ []) (owed_behind (mark_of one) spot owed)
walk_more top list met spot owed one w counts = record {
  leaves = leaves_more (top ∷ []) list spot owed one w.leaves counts;
  nodes_are = nodes_more (top ∷ []) list spot owed one w.leaves ∙ ap (λ l. l ++ node_at spot (mark_of one) ∷ []) w.nodes_are;
}

-- one that is a whole tree
pub walk_leaf : (top : Spot) (list : List Symbol) (met : List Node) (spot : Spot) (owed : List Spot) (one : Symbol) → IsWalked top list met (spot ∷ owed) → IsLeaf one → Fits spot.place (leaf one) →
    IsWalked top (list ++ one ∷ []) (met ++ nodes spot.path spot.place (leaf one)) owed
walk_leaf top list met spot owed symbol.CutB w is fits = walk_more top list met spot owed symbol.CutB w tt
walk_leaf top list met spot owed symbol.CutL w is fits = walk_more top list met spot owed symbol.CutL w tt
walk_leaf top list met spot owed (symbol.CutR bound text) w is fits = walk_more top list met spot owed (symbol.CutR bound text) w fits
walk_leaf top list met spot owed (symbol.Branch n) w is fits = absurd is
walk_leaf top list met spot owed symbol.Given w is fits = walk_more top list met spot owed symbol.Given w tt

-- where nothing is owed any more they are those of a tree that fits there
pub record IsTreeAt (top : Spot) (list : List Symbol) (met : List Node) : Type 0 where
  pub tree : Tree
  pub symbols_are : list ≡ symbols tree
  pub fits : Fits top.place tree
  pub nodes_are : nodes top.path top.place tree ≡ met

one_tree : (top : Spot) (list : List Symbol) (met : List Node) (trees : List Tree) → Pay (top ∷ []) trees → list ≡ all_symbols trees → nodes_of_all (top ∷ []) trees ≡ met → IsTreeAt top list met
one_tree top list met [] at text list_is = absurd at
one_tree top list met (tree ∷ []) at text list_is = record {
  tree = tree;
  symbols_are = text ∙ append-nil (symbols tree);
  fits = at.0;
  nodes_are = sym (append-nil (nodes top.path top.place tree)) ∙ list_is;
}
one_tree top list met (tree ∷ other ∷ trees) at text list_is = absurd at.1

pub walk_ends : (top : Spot) (list : List Symbol) (met : List Node) → IsWalked top list met [] → IsTreeAt top list met
walk_ends top list met w =
    let r = paid (top ∷ []) list w.leaves in
    one_tree top list met r.trees r.at r.symbols_are (sym r.nodes_are ∙ w.nodes_are)
