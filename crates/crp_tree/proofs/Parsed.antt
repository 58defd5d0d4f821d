-- Trees that come first in a row of symbols, one after the other.
use Rattle.std.proofs.Common.{◌≡◌, ℕ, zero, suc, ◌+◌, ◌-◌, ◌<◌, ◌≤◌, List, [], ◌∷◌, ◌++◌, length, take, drop, get_or, refl, sym, ap, ◌∙◌, subst, arith, append_assoc, append-nil, zero-add, length-append, All}
use Rattle.std.proofs.Math.Seq.{take-suc, take-add}
use Rattle.std.proofs.lemmas.List.{append_cancel_left, take_all}
use Rattle.crp_row.specs.Symbol.{Symbol}
use Rattle.crp_row.specs.Symbol as symbol
use Rattle.crp_row.specs.declared.kind.Kind.{Kind}
use Rattle.crp_row.specs.declared.kind.Kind.TheVariants as kind
use Rattle.crp_row.specs.Rows.{symbol_of}
use Rattle.crp_tree.specs.Tree.{Tree, CutB, CutL, CutR, Branch, Given, items, row}
use Rattle.crp_tree.specs.Symbols.{symbols, symbols_of_each, trees_of, tree_of, tree_front, items_row, all_symbols, some_trees, IsLeaf, leaf, leaf_symbols, ComesFirst, ComeFirst}
use Rattle.crp_plan.specs.Bay.{Position}
use Rattle.crp_bay.specs.Positions.{targets}
use Rattle.crp_tree.specs.Trees.{nodes, Fits, IsInPlace}
use Rattle.crp_tree.specs.Listed.{nodes_below, AreFit}
use Rattle.crp_tree.proofs.Listed.{IsBranchOf, branch_of, branch_node}
use Rattle.crp_tree.proofs.Paying.{row_symbols, symbols_joined}

-- how many trees a symbol owes
abbrev pub owes : Symbol → ℕ
owes symbol.CutB = 0
owes symbol.CutL = 0
owes (symbol.CutR bound text) = 0
owes (symbol.Branch n) = n
owes symbol.Given = 0

-- ---- first symbols

abbrev tail_of : List Symbol → List Symbol
tail_of [] = []
tail_of (one ∷ list) = list

same_tail : (one other : Symbol) (list others : List Symbol) → one ∷ list ≡ other ∷ others → list ≡ others
same_tail one other list others e = ap tail_of e

abbrev count_of : List Symbol → ℕ
count_of [] = 0
count_of (one ∷ list) = owes one

same_count : (n m : ℕ) (list others : List Symbol) → symbol.Branch n ∷ list ≡ symbol.Branch m ∷ others → n ≡ m
same_count n m list others e = ap count_of e

-- ---- one tree

-- what is told of a tree whose symbols come first
pub record IsFront (tree : Tree) (list rest : List Symbol) : Type 0 where
  pub is : tree_of list ≡ tree
  pub first : ComesFirst list rest

pub front : (tree : Tree) (list rest : List Symbol) → list ≡ symbols tree ++ rest → IsFront tree list rest
front tree list rest e =
    let same : tree_of list ≡ tree = ap (λ l. tree_of l) e ∙ tree_front tree rest in
    record { is = same; first = e ∙ ap (λ t. symbols t ++ rest) (sym same) }

-- the symbols of one tree alone
pub alone : (tree : Tree) (list : List Symbol) → list ≡ symbols tree → IsFront tree list []
alone tree list e = front tree list [] (e ∙ sym (append-nil (symbols tree)))

-- a symbol that is a whole tree
pub leaf_first : (one : Symbol) (here behind : List Symbol) → here ≡ one ∷ behind → IsLeaf one → IsFront (leaf one) here behind
leaf_first one here behind e is = front (leaf one) here behind (e ∙ ap (λ l. l ++ behind) (leaf_symbols one is))

-- no row is without a symbol
pub no_tree : (rest : List Symbol) → ComesFirst [] rest → ⊥
no_tree rest e = cc

-- behind a branch its trees come first
pub below_branch : (n : ℕ) (list rest : List Symbol) → ComesFirst (symbol.Branch n ∷ list) rest → ComeFirst n list rest
below_branch n list rest e =
    let below : List Tree = some_trees n list in
    record {
      many = sym (same_count n (length (items (row below))) list (symbols_of_each (row below) ++ rest) e ∙ ap length (items_row below));
      symbols_are = same_tail (symbol.Branch n) (symbol.Branch (length (items (row below)))) list (symbols_of_each (row below) ++ rest) e ∙ ap (λ l. l ++ rest) (row_symbols below);
    }

-- and the other way round
pub above_trees : (n : ℕ) (list rest : List Symbol) → ComeFirst n list rest → ComesFirst (symbol.Branch n ∷ list) rest
above_trees n list rest c =
    let below : List Tree = some_trees n list in
    ap (λ l. symbol.Branch n ∷ l) (c.symbols_are ∙ ap (λ l. l ++ rest) (sym (row_symbols below)))
    ∙ ap (λ m. symbol.Branch m ∷ symbols_of_each (row below) ++ rest) (sym c.many ∙ ap length (sym (items_row below)))

-- ---- trees, one after the other

-- one tree alone
pub one_first : (list rest : List Symbol) → ComesFirst list rest → ComeFirst 1 list rest
one_first [] rest e = absurd (no_tree rest e)
one_first (symbol.CutB ∷ list) rest e = record { many = refl; symbols_are = e }
one_first (symbol.CutL ∷ list) rest e = record { many = refl; symbols_are = e }
one_first (symbol.CutR bound text ∷ list) rest e = record { many = refl; symbols_are = e }
one_first (symbol.Branch n ∷ list) rest e = record { many = refl; symbols_are = e ∙ ap (λ l. l ++ rest) (sym (append-nil (symbols (tree_of (symbol.Branch n ∷ list))))) }
one_first (symbol.Given ∷ list) rest e = record { many = refl; symbols_are = e }

pub first_one : (list rest : List Symbol) → ComeFirst 1 list rest → ComesFirst list rest
first_one [] rest c = let e : 0 ≡ 1 = c.many in absurd (let no : ⊥ = omega (arith, e) in no)
first_one (symbol.CutB ∷ list) rest c = c.symbols_are
first_one (symbol.CutL ∷ list) rest c = c.symbols_are
first_one (symbol.CutR bound text ∷ list) rest c = c.symbols_are
first_one (symbol.Branch n ∷ list) rest c = c.symbols_are ∙ ap (λ l. l ++ rest) (append-nil (symbols (tree_of (symbol.Branch n ∷ list))))
first_one (symbol.Given ∷ list) rest c = c.symbols_are

-- a row without symbols has none
pub not_empty : (rest : List Symbol) (count : ℕ) → ComeFirst (suc count) [] rest → ⊥
not_empty rest count c = let e : 0 ≡ suc count = c.many in omega arith

leaf_behind : (list rest : List Symbol) (count : ℕ) → length (some_trees count list) ≡ count → list ≡ all_symbols (some_trees count list) ++ rest → ComeFirst (0 + count) list rest
leaf_behind list rest count many text = subst (λ n. ComeFirst n list rest) (sym (zero-add count)) (record { many = many; symbols_are = text })

-- behind a symbol come what it owes and the others
pub behind_one : (one : Symbol) (list rest : List Symbol) (count : ℕ) → ComeFirst (suc count) (one ∷ list) rest → ComeFirst (owes one + count) list rest
behind_one symbol.CutB list rest count c = leaf_behind list rest count (omega (arith, c.many)) (same_tail _ _ _ _ c.symbols_are)
behind_one symbol.CutL list rest count c = leaf_behind list rest count (omega (arith, c.many)) (same_tail _ _ _ _ c.symbols_are)
behind_one (symbol.CutR bound text) list rest count c = leaf_behind list rest count (omega (arith, c.many)) (same_tail _ _ _ _ c.symbols_are)
behind_one symbol.Given list rest count c = leaf_behind list rest count (omega (arith, c.many)) (same_tail _ _ _ _ c.symbols_are)
behind_one (symbol.Branch n) list rest count c =
    let below : List Tree = some_trees n list in
    let others : List Tree = take count (drop n (trees_of list)) in
    let all : some_trees (n + count) list ≡ below ++ others = take-add n count (trees_of list) in
    let text : symbol.Branch n ∷ list ≡ symbol.Branch (length (items (row below))) ∷ (symbols_of_each (row below) ++ all_symbols others) ++ rest = c.symbols_are in
    let first : n ≡ length below = same_count n (length (items (row below))) list ((symbols_of_each (row below) ++ all_symbols others) ++ rest) text ∙ ap length (items_row below) in
    let second : suc (length others) ≡ suc count = c.many in
    record {
      many = omega (arith, ap length all, length-append below others);
      symbols_are = same_tail (symbol.Branch n) (symbol.Branch (length (items (row below)))) list ((symbols_of_each (row below) ++ all_symbols others) ++ rest) text
          ∙ ap (λ l. (l ++ all_symbols others) ++ rest) (row_symbols below)
          ∙ ap (λ l. l ++ rest) (sym (symbols_joined below others))
          ∙ ap (λ l. all_symbols l ++ rest) (sym all);
    }

one_at_least : (tree : Tree) → 1 ≤ length (symbols tree)
one_at_least CutB = omega arith
one_at_least CutL = omega arith
one_at_least (CutR bound text) = omega arith
one_at_least (Branch trees) = omega arith
one_at_least Given = omega arith

long : (trees : List Tree) → length trees ≤ length (all_symbols trees)
long [] = omega arith
long (tree ∷ trees) = omega (arith, one_at_least tree, long trees, length-append (symbols tree) (all_symbols trees))

-- there are as many symbols as trees at least
pub enough : (count : ℕ) (list rest : List Symbol) → ComeFirst count list rest → count ≤ length list
enough count list rest c = let a = c.many in let b = long (some_trees count list) in omega (arith, ap length c.symbols_are, length-append (all_symbols (some_trees count list)) rest)

-- ---- the tree that a loop goes over

around : (trees : List Tree) (i : ℕ) (d : Tree) → i < length trees → all_symbols trees ≡ all_symbols (take i trees) ++ (symbols (get_or trees i d) ++ all_symbols (drop (suc i) trees))
around [] i d lt = absurd (omega arith)
around (t ∷ trees) zero d lt = refl
around (t ∷ trees) (suc i) d lt =
    ap (λ l. symbols t ++ l) (around trees i d (omega arith)) ∙ sym (append_assoc (symbols t) (all_symbols (take i trees)) (symbols (get_or trees i d) ++ all_symbols (drop (suc i) trees)))

one_more : (trees : List Tree) (i : ℕ) (d : Tree) → i < length trees → all_symbols (take (suc i) trees) ≡ all_symbols (take i trees) ++ symbols (get_or trees i d)
one_more trees i d lt =
    ap all_symbols (take-suc trees i d lt) ∙ symbols_joined (take i trees) (get_or trees i d ∷ []) ∙ ap (λ l. all_symbols (take i trees) ++ l) (append-nil (symbols (get_or trees i d)))

-- the next of trees that come first, of which i were met
pub record IsNext (list : List Symbol) (trees : List Tree) (i : ℕ) (here : List Symbol) : Type 0 where
  pub is_tree : tree_of here ≡ get_or trees i (tree_of here)
  pub first : (rest : List Symbol) × ComesFirst here rest
  pub on : (there : List Symbol) → ComesFirst here there → list ≡ all_symbols (take (suc i) trees) ++ there

pub next_tree : (list here rest : List Symbol) (trees : List Tree) (i : ℕ) → list ≡ all_symbols trees ++ rest → list ≡ all_symbols (take i trees) ++ here → i < length trees → IsNext list trees i here
next_tree list here rest trees i whole half lt =
    let d : Tree = tree_of here in
    let one : Tree = get_or trees i d in
    let before : List Symbol = all_symbols (take i trees) in
    let after : List Symbol = all_symbols (drop (suc i) trees) in
    let here_is : here ≡ symbols one ++ (after ++ rest) =
    append_cancel_left before here (symbols one ++ (after ++ rest))
    (sym half ∙ whole ∙ ap (λ l. l ++ rest) (around trees i d lt) ∙ append_assoc before (symbols one ++ after) rest ∙ ap (λ l. before ++ l) (append_assoc (symbols one) after rest)) in
    let r = front one here (after ++ rest) here_is in
    record {
      is_tree = r.is;
      first = (after ++ rest, r.first);
      on = λ there e.
          half ∙ ap (λ l. before ++ l) (e ∙ ap (λ t. symbols t ++ there) r.is) ∙ sym (append_assoc before (symbols one) there) ∙ ap (λ l. l ++ there) (sym (one_more trees i d lt));
    }

-- after the last of them
pub all_met : (count : ℕ) (list here rest : List Symbol) (i : ℕ) → ComeFirst count list rest → list ≡ all_symbols (take i (some_trees count list)) ++ here → length (some_trees count list) ≤ i → ComeFirst count list here
all_met count list here rest i c half done = record { many = c.many; symbols_are = half ∙ ap (λ l. all_symbols l ++ here) (take_all i (some_trees count list) done) }

-- ---- symbol after symbol

-- a symbol that is no branch owes nothing
pub owes_none : (one : Kind) (text : List ℕ) → ((n : ℕ) → one ≡ kind.Branch n → ⊥) → owes (symbol_of one text) ≡ 0
owes_none kind.CutB text none = refl
owes_none kind.CutL text none = refl
owes_none (kind.CutR bound) text none = refl
owes_none (kind.Branch n) text none = absurd (none n refl)
owes_none kind.Given text none = refl

-- one symbol is passed
pub passed : (one : Symbol) (here behind rest : List Symbol) (left next : ℕ) → 0 < left → here ≡ one ∷ behind → next ≡ left - 1 + owes one → ComeFirst left here rest → ComeFirst next behind rest
passed one here behind rest left next lt is next_is k =
    let less : left ≡ suc (left - 1) = omega arith in
    let first : ComeFirst (suc (left - 1)) (one ∷ behind) rest = subst (λ n. ComeFirst n (one ∷ behind) rest) less (subst (λ l. ComeFirst left l rest) is k) in
    subst (λ n. ComeFirst n behind rest) (omega arith) (behind_one one behind rest (left - 1) first)

-- ---- a branch that comes first

-- what is known below it, where the whole tree is in its place
pub record IsBelow (path : List ℕ) (s : Position) (n : ℕ) (behind rest : List Symbol) : Type 0 where
  pub first : ComeFirst n behind rest
  pub fit : AreFit s (targets s) (some_trees n behind)
  pub in_place : All IsInPlace (branch_node path s ∷ nodes_below path s (targets s) (some_trees n behind))

-- its nodes
pub nodes_here : (path : List ℕ) (s : Position) (one : Symbol) (here behind : List Symbol) (n : ℕ) → here ≡ one ∷ behind → one ≡ symbol.Branch n →
    nodes path s (tree_of here) ≡ branch_node path s ∷ nodes_below path s (targets s) (some_trees n behind)
nodes_here path s one here behind n is is_branch =
    let branch : IsBranchOf (Branch (row (some_trees n behind))) (some_trees n behind) = branch_of (some_trees n behind) in
    ap (λ l. nodes path s (tree_of l)) (is ∙ ap (λ o. o ∷ behind) is_branch) ∙ branch.nodes_are path s

pub below : (path : List ℕ) (s : Position) (one : Symbol) (here behind rest : List Symbol) (n : ℕ) → here ≡ one ∷ behind → one ≡ symbol.Branch n → ComesFirst here rest → Fits s (tree_of here) → All IsInPlace (nodes path s (tree_of here)) →
    IsBelow path s n behind rest
below path s one here behind rest n is is_branch first fits in_place =
    let branch : IsBranchOf (Branch (row (some_trees n behind))) (some_trees n behind) = branch_of (some_trees n behind) in
    let same : here ≡ symbol.Branch n ∷ behind = is ∙ ap (λ o. o ∷ behind) is_branch in
    record {
      first = below_branch n behind rest (subst (λ l. ComesFirst l rest) same first);
      fit = branch.fitting s (subst (λ l. Fits s (tree_of l)) same fits);
      in_place = subst (All IsInPlace) (nodes_here path s one here behind n is is_branch) in_place;
    }

-- what is behind its trees is behind it
pub behind_branch : (one : Symbol) (here behind there : List Symbol) (n : ℕ) → here ≡ one ∷ behind → one ≡ symbol.Branch n → ComeFirst n behind there → ComesFirst here there
behind_branch one here behind there n is is_branch c = subst (λ l. ComesFirst l there) (sym (is ∙ ap (λ o. o ∷ behind) is_branch)) (above_trees n behind there c)
