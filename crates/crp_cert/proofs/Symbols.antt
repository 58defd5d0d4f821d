-- The symbols of trees: bytes begin with those of one tree at most, and a branch is read tree by tree.
use Rattle.std.proofs.Common.{◌≡◌, ℕ, zero, suc, ◌<◌, ◌||◌, false, List, [], ◌∷◌, ◌++◌, length, map, take, get_or, None, refl, sym, ap, ◌∙◌, subst, arith, append_assoc, append-nil}
use Rattle.std.specs.Prelude.{codes}
use Rattle.std.specs.List.{flat_map, list_any}
use Rattle.std.specs.Fmt.{decimal}
use Rattle.std.proofs.lemmas.Grind.{flat_map-append}
use Rattle.std.proofs.lemmas.List.Folds.{list_any-append}
use Rattle.crp_row.specs.Symbol.{Symbol}
use Rattle.crp_row.specs.Symbol as symbol
use Rattle.crp_row.specs.Rows.{kind_of, has_text}
use Rattle.crp_row.specs.Reasons.{reasons_text}
use Rattle.crp_tree.specs.Mark.{R}
use Rattle.std.proofs.lemmas.Option.{none-some}
use Rattle.crp_plan.specs.Bay.{Position}
use Rattle.crp_bay.specs.Positions.{targets, child}
use Rattle.crp_tree.specs.Tree.{Tree, CutB, CutL, CutR, Branch, Given, Trees, no_trees, one_and, items, row}
use Rattle.std.proofs.lemmas.List.{map-append}
use Rattle.crp_tree.specs.Spots.{symbol_text}
use Rattle.crp_tree.specs.Symbols.{symbols, symbols_of_each as symbols_of_each', items_row}
use Rattle.crp_tree.specs.Trees.{Node, nodes, nodes_of_each, spelled, Fits, FitsEach}
use Rattle.crp_tree.specs.Listed.{AreFit}
use Rattle.crp_tree.proofs.Listed.{IsBranch, trees_of, branch_node, branch_of, list_fits}
use Rattle.crp_cert.specs.Letters.{letter}
use Rattle.crp_cert.specs.Script.{symbols_of, symbols_of_each, has_reasons, some_has_reasons}
use Rattle.crp_cert.specs.ScriptFaults.{BeginsWithTree}
use Rattle.crp_cert.specs.Reading.{tag_at, reasons_at}
use Rattle.crp_cert.proofs.Numbers.{tag_again}
use Rattle.crp_cert.proofs.Readers.{once}
use Rattle.crp_cert.proofs.Reasons.{Reasons, reasons_reader}

-- ---- one tree

-- texts that are equal begin with the same byte
heads : (x y : ℕ) (xs ys : List ℕ) → x ∷ xs ≡ y ∷ ys → x ≡ y
heads x y xs ys e = cc

-- and are equal from there on
tails : (x y : ℕ) (xs ys : List ℕ) → x ∷ xs ≡ y ∷ ys → xs ≡ ys
tails x y xs ys e = cc

-- texts that begin with unequal bytes are not equal
unlike : (x y : ℕ) (xs ys : List ℕ) → (x ≡ y → ⊥) → x ∷ xs ≡ y ∷ ys → ⊥
unlike x y xs ys ne e = ne (heads x y xs ys e)

-- a node's mark as it is spelled
abbrev pub spelled_of : Node → List ℕ
spelled_of node = spelled node.mark

mutual
  -- the marks of the nodes of a tree that fits, as they are spelled, are its symbols
  pub marks_are : (path : List ℕ) (s : Position) (tree : Tree) → Fits s tree → flat_map spelled_of (nodes path s tree) ≡ symbols_of tree
  marks_are path s CutB m = refl
  marks_are path s CutL m = refl
  marks_are path s (CutR bound text) m = append-nil (reasons_text bound text)
  marks_are path s Given m = refl
  marks_are path s (Branch all) m = ap (λ l. 88 ∷ l) (marks_each path s (targets s) all m)

  marks_each : (path : List ℕ) (s : Position) (rows : List ℕ) (all : Trees) → FitsEach s rows all → flat_map spelled_of (nodes_of_each path s rows all) ≡ symbols_of_each all
  marks_each path s [] no_trees m = refl
  marks_each path s [] (one_and tree trees) m = absurd m
  marks_each path s (row ∷ rows) no_trees m = absurd m
  marks_each path s (row ∷ rows) (one_and tree trees) m =
      flat_map-append spelled_of (nodes (path ++ row ∷ []) (child s row) tree) (nodes_of_each path s rows trees)
      ∙ ap (λ l. l ++ flat_map spelled_of (nodes_of_each path s rows trees)) (marks_are (path ++ row ∷ []) (child s row) tree m.0)
      ∙ ap (λ l. symbols_of tree ++ l) (marks_each path s rows trees m.1)

-- what stands behind the bracket of reasons
abbrev reasons_behind : ℕ → List ℕ → List ℕ
reasons_behind bound text = decimal bound ++ (codes ":" ++ (text ++ codes "]"))

-- symbols begin with those of one tree at most, as far as its nodes go
mutual
  pub one_tree : (path : List ℕ) (s : Position) (tree other : Tree) (rest rest' : List ℕ) → Fits s tree → Fits s other → symbols_of tree ++ rest ≡ symbols_of other ++ rest' → (nodes path s tree ≡ nodes path s other) × (rest ≡ rest')
  one_tree path s CutB CutB rest rest' m m' e = (refl, tails 66 66 rest rest' e)
  one_tree path s CutB CutL rest rest' m m' e = absurd (unlike 66 76 rest rest' (λ h. omega arith) e)
  one_tree path s CutB (CutR bound text) rest rest' m m' e = absurd (unlike 66 91 rest (reasons_behind bound text ++ rest') (λ h. omega arith) e)
  one_tree path s CutB Given rest rest' m m' e = absurd (unlike 66 71 rest rest' (λ h. omega arith) e)
  one_tree path s CutB (Branch all) rest rest' m m' e = absurd (unlike 66 88 rest (symbols_of_each all ++ rest') (λ h. omega arith) e)
  one_tree path s CutL CutB rest rest' m m' e = absurd (unlike 76 66 rest rest' (λ h. omega arith) e)
  one_tree path s CutL CutL rest rest' m m' e = (refl, tails 76 76 rest rest' e)
  one_tree path s CutL (CutR bound text) rest rest' m m' e = absurd (unlike 76 91 rest (reasons_behind bound text ++ rest') (λ h. omega arith) e)
  one_tree path s CutL Given rest rest' m m' e = absurd (unlike 76 71 rest rest' (λ h. omega arith) e)
  one_tree path s CutL (Branch all) rest rest' m m' e = absurd (unlike 76 88 rest (symbols_of_each all ++ rest') (λ h. omega arith) e)
  one_tree path s (CutR bound text) CutB rest rest' m m' e = absurd (unlike 91 66 (reasons_behind bound text ++ rest) rest' (λ h. omega arith) e)
  one_tree path s (CutR bound text) CutL rest rest' m m' e = absurd (unlike 91 76 (reasons_behind bound text ++ rest) rest' (λ h. omega arith) e)
  one_tree path s (CutR bound text) (CutR bound' text') rest rest' m m' e =
      let r = once reasons_reader (bound, text) (bound', text') rest rest' m m' e in
      (ap (λ (x : Reasons). record { path = path; place = s; mark = R x.0 x.1 } ∷ []) r.0, r.1)
  one_tree path s (CutR bound text) Given rest rest' m m' e = absurd (unlike 91 71 (reasons_behind bound text ++ rest) rest' (λ h. omega arith) e)
  one_tree path s (CutR bound text) (Branch all) rest rest' m m' e = absurd (unlike 91 88 (reasons_behind bound text ++ rest) (symbols_of_each all ++ rest') (λ h. omega arith) e)
  one_tree path s Given CutB rest rest' m m' e = absurd (unlike 71 66 rest rest' (λ h. omega arith) e)
  one_tree path s Given CutL rest rest' m m' e = absurd (unlike 71 76 rest rest' (λ h. omega arith) e)
  one_tree path s Given (CutR bound text) rest rest' m m' e = absurd (unlike 71 91 rest (reasons_behind bound text ++ rest') (λ h. omega arith) e)
  one_tree path s Given Given rest rest' m m' e = (refl, tails 71 71 rest rest' e)
  one_tree path s Given (Branch all) rest rest' m m' e = absurd (unlike 71 88 rest (symbols_of_each all ++ rest') (λ h. omega arith) e)
  one_tree path s (Branch all) CutB rest rest' m m' e = absurd (unlike 88 66 (symbols_of_each all ++ rest) rest' (λ h. omega arith) e)
  one_tree path s (Branch all) CutL rest rest' m m' e = absurd (unlike 88 76 (symbols_of_each all ++ rest) rest' (λ h. omega arith) e)
  one_tree path s (Branch all) (CutR bound text) rest rest' m m' e = absurd (unlike 88 91 (symbols_of_each all ++ rest) (reasons_behind bound text ++ rest') (λ h. omega arith) e)
  one_tree path s (Branch all) Given rest rest' m m' e = absurd (unlike 88 71 (symbols_of_each all ++ rest) rest' (λ h. omega arith) e)
  one_tree path s (Branch all) (Branch all') rest rest' m m' e =
      let r = one_row path s (targets s) all all' rest rest' m m' (tails 88 88 (symbols_of_each all ++ rest) (symbols_of_each all' ++ rest') e) in
      (ap (λ l. branch_node path s ∷ l) r.0, r.1)

  -- and with those of one row of trees at most
  one_row : (path : List ℕ) (s : Position) (rows : List ℕ) → (all : Trees) → (other : Trees) → (rest rest' : List ℕ) → FitsEach s rows all → FitsEach s rows other →
      symbols_of_each all ++ rest ≡ symbols_of_each other ++ rest' → (nodes_of_each path s rows all ≡ nodes_of_each path s rows other) × (rest ≡ rest')
  one_row path s [] no_trees no_trees rest rest' m m' e = (refl, e)
  one_row path s [] no_trees (one_and tree trees) rest rest' m m' e = absurd m'
  one_row path s [] (one_and tree trees) other rest rest' m m' e = absurd m
  one_row path s (row ∷ rows) no_trees other rest rest' m m' e = absurd m
  one_row path s (row ∷ rows) (one_and tree trees) no_trees rest rest' m m' e = absurd m'
  one_row path s (row ∷ rows) (one_and tree trees) (one_and tree' trees') rest rest' m m' e =
      let h = one_tree (path ++ row ∷ []) (child s row) tree tree' (symbols_of_each trees ++ rest) (symbols_of_each trees' ++ rest') m.0 m'.0
      (sym (append_assoc (symbols_of tree) (symbols_of_each trees) rest) ∙ e ∙ append_assoc (symbols_of tree') (symbols_of_each trees') rest') in
      let r = one_row path s rows trees trees' rest rest' m.1 m'.1 h.1 in
      (ap (λ l. l ++ nodes_of_each path s rows trees) h.0 ∙ ap (λ l. nodes (path ++ row ∷ []) (child s row) tree' ++ l) r.0, r.1)

-- ---- a branch, tree by tree

-- its symbols are those of its trees, one after the other
each_symbols : (all : Trees) → symbols_of_each all ≡ flat_map symbols_of (items all)
each_symbols no_trees = refl
each_symbols (one_and tree trees) = ap (λ l. symbols_of tree ++ l) (each_symbols trees)

symbols_below : (tree : Tree) → IsBranch tree → symbols_of tree ≡ codes "X" ++ flat_map symbols_of (trees_of tree)
symbols_below CutB is = absurd is
symbols_below CutL is = absurd is
symbols_below (CutR bound text) is = absurd is
symbols_below Given is = absurd is
symbols_below (Branch all) is = ap (λ l. codes "X" ++ l) (each_symbols all)

pub branch_symbols : (trees : List Tree) → symbols_of (Branch (row trees)) ≡ codes "X" ++ flat_map symbols_of trees
branch_symbols trees = subst (λ l. symbols_of (Branch (row trees)) ≡ codes "X" ++ flat_map symbols_of l) (items_row trees) (symbols_below (Branch (row trees)) tt)

-- a branch that was read
pub branch_read : (s : Position) (bytes : List ℕ) (trees : List Tree) (rest : List ℕ) → AreFit s (targets s) trees → bytes ≡ (codes "X" ++ flat_map symbols_of trees) ++ rest →
    Fits s (Branch (row trees)) × (bytes ≡ symbols_of (Branch (row trees)) ++ rest)
branch_read s bytes trees rest m e = let branch = branch_of trees in (branch.fits s m, e ∙ ap (λ l. l ++ rest) (sym (branch_symbols trees)))

-- the symbols of one tree more
all_push : (trees : List Tree) (tree : Tree) → flat_map symbols_of (trees ++ tree ∷ []) ≡ flat_map symbols_of trees ++ symbols_of tree
all_push [] tree = append-nil (symbols_of tree)
all_push (t ∷ trees) tree = ap (λ l. symbols_of t ++ l) (all_push trees tree) ∙ sym (append_assoc (symbols_of t) (flat_map symbols_of trees) (symbols_of tree))

pub text_push : (bytes : List ℕ) (trees : List Tree) (tree : Tree) (rest after : List ℕ) → bytes ≡ (codes "X" ++ flat_map symbols_of trees) ++ rest → rest ≡ symbols_of tree ++ after → bytes ≡ (codes "X" ++ flat_map symbols_of (trees ++ tree ∷ [])) ++ after
text_push bytes trees tree rest after e f =
    e ∙ ap (λ l. (codes "X" ++ flat_map symbols_of trees) ++ l) f ∙ sym (append_assoc (codes "X" ++ flat_map symbols_of trees) (symbols_of tree) after) ∙ ap (λ l. (codes "X" ++ l) ++ after) (sym (all_push trees tree))

-- ---- where no tree is read

-- none of the symbols stands there
pub no_symbol : (s : Position) (bytes : List ℕ) → tag_at (codes "B") bytes ≡ None → tag_at (codes "L") bytes ≡ None → tag_at (codes "G") bytes ≡ None → reasons_at bytes ≡ None → tag_at (codes "X") bytes ≡ None →
    ¬ BeginsWithTree s bytes
no_symbol s bytes b l g r x stands = by_tree stands.0 stands.1 stands.2.0 stands.2.1
  where
    by_tree : (tree : Tree) → Fits s tree → (rest : List ℕ) → bytes ≡ symbols_of tree ++ rest → ⊥
    by_tree CutB m rest e = none-some rest (sym b ∙ ap (tag_at (codes "B")) e ∙ tag_again (codes "B") rest)
    by_tree CutL m rest e = none-some rest (sym l ∙ ap (tag_at (codes "L")) e ∙ tag_again (codes "L") rest)
    by_tree (CutR bound text) m rest e = none-some ((bound, text), rest) (sym r ∙ ap reasons_at e ∙ reasons_reader.again (bound, text) rest m)
    by_tree (Branch all) m rest e = none-some (symbols_of_each all ++ rest) (sym x ∙ ap (tag_at (codes "X")) e ∙ tag_again (codes "X") (symbols_of_each all ++ rest))
    by_tree Given m rest e = none-some rest (sym g ∙ ap (tag_at (codes "G")) e ∙ tag_again (codes "G") rest)

-- trees that were read, and trees of the whole row, go on alike
not_further : (s : Position) (rows : List ℕ) (trees others : List Tree) (i a : ℕ) (left rest : List ℕ) → i < length rows → AreFit s (take i rows) trees → AreFit s rows others →
    flat_map symbols_of trees ++ left ≡ flat_map symbols_of others ++ rest → ¬ BeginsWithTree (child s (get_or rows i a)) left → ⊥
not_further s [] trees others i a left rest lt m m' e none = absurd (omega arith)
not_further s (r ∷ rows) trees [] i a left rest lt m m' e none = m'
not_further s (r ∷ rows) [] (o ∷ others) zero a left rest lt m m' e none = none (o, m'.0, (flat_map symbols_of others ++ rest, e ∙ append_assoc (symbols_of o) (flat_map symbols_of others) rest))
not_further s (r ∷ rows) (t ∷ trees) (o ∷ others) zero a left rest lt m m' e none = m
not_further s (r ∷ rows) [] (o ∷ others) (suc i) a left rest lt m m' e none = m
not_further s (r ∷ rows) (t ∷ trees) (o ∷ others) (suc i) a left rest lt m m' e none =
    not_further s rows trees others i a left rest (omega arith) m.1 m'.1
    (one_tree [] (child s r) t o (flat_map symbols_of trees ++ left) (flat_map symbols_of others ++ rest) m.0 m'.0
    (sym (append_assoc (symbols_of t) (flat_map symbols_of trees) left) ∙ e ∙ append_assoc (symbols_of o) (flat_map symbols_of others) rest)).1
    none

-- where a tree of a branch cannot be read, the branch cannot
pub branch_stops : (s : Position) (bytes : List ℕ) (rows : List ℕ) (trees : List Tree) (i a : ℕ) (left : List ℕ) → rows ≡ targets s → i < length rows → AreFit s (take i rows) trees →
    bytes ≡ (codes "X" ++ flat_map symbols_of trees) ++ left → ¬ BeginsWithTree (child s (get_or rows i a)) left → ¬ BeginsWithTree s bytes
branch_stops s bytes rows trees i a left rows_are lt m e none stands = by_tree stands.0 stands.1 stands.2.0 stands.2.1
  where
    by_tree : (tree : Tree) → Fits s tree → (rest : List ℕ) → bytes ≡ symbols_of tree ++ rest → ⊥
    by_tree CutB m' rest e' = unlike 88 66 (flat_map symbols_of trees ++ left) rest (λ h. omega arith) (sym e ∙ e')
    by_tree CutL m' rest e' = unlike 88 76 (flat_map symbols_of trees ++ left) rest (λ h. omega arith) (sym e ∙ e')
    by_tree (CutR bound text) m' rest e' = unlike 88 91 (flat_map symbols_of trees ++ left) (reasons_behind bound text ++ rest) (λ h. omega arith) (sym e ∙ e')
    by_tree Given m' rest e' = unlike 88 71 (flat_map symbols_of trees ++ left) rest (λ h. omega arith) (sym e ∙ e')
    by_tree (Branch all) m' rest e' =
        let t : flat_map symbols_of trees ++ left ≡ symbols_of_each all ++ rest = tails 88 88 (flat_map symbols_of trees ++ left) (symbols_of_each all ++ rest) (sym e ∙ e') in
        not_further s rows trees (items all) i a left rest lt m
        (subst (λ l. AreFit s l (items all)) (sym rows_are) (list_fits s (targets s) all m'))
        (t ∙ ap (λ l. l ++ rest) (each_symbols all)) none

-- ---- a tree's symbols as they are spelled

mutual
  pub symbols_spelled : (tree : Tree) → flat_map symbol_text (symbols tree) ≡ symbols_of tree
  symbols_spelled CutB = refl
  symbols_spelled CutL = refl
  symbols_spelled (CutR bound text) = append-nil (reasons_text bound text)
  symbols_spelled Given = refl
  symbols_spelled (Branch trees) = ap (λ l. 88 ∷ l) (spelled_each trees)

  spelled_each : (trees : Trees) → flat_map symbol_text (symbols_of_each' trees) ≡ symbols_of_each trees
  spelled_each no_trees = refl
  spelled_each (one_and tree trees) =
      flat_map-append symbol_text (symbols tree) (symbols_of_each' trees) ∙ ap (λ l. l ++ flat_map symbol_text (symbols_of_each' trees)) (symbols_spelled tree) ∙ ap (λ l. symbols_of tree ++ l) (spelled_each trees)

-- ---- which of them have reasons

-- two lists have one where one of them has
any_joined : (xs ys : List Symbol) → list_any has_text (map kind_of (xs ++ ys)) ≡ (list_any has_text (map kind_of xs) || list_any has_text (map kind_of ys))
any_joined xs ys = ap (list_any has_text) (map-append kind_of xs ys) ∙ list_any-append has_text (map kind_of xs) (map kind_of ys)

mutual
  pub reasons_by_kinds : (tree : Tree) → list_any has_text (map kind_of (symbols tree)) ≡ has_reasons tree
  reasons_by_kinds CutB = refl
  reasons_by_kinds CutL = refl
  reasons_by_kinds (CutR bound text) = refl
  reasons_by_kinds Given = refl
  reasons_by_kinds (Branch trees) = some_by_kinds trees

  some_by_kinds : (trees : Trees) → list_any has_text (map kind_of (symbols_of_each' trees)) ≡ some_has_reasons trees
  some_by_kinds no_trees = refl
  some_by_kinds (one_and tree trees) =
      any_joined (symbols tree) (symbols_of_each' trees) ∙ ap (λ x. x || list_any has_text (map kind_of (symbols_of_each' trees))) (reasons_by_kinds tree) ∙ ap (λ x. has_reasons tree || x) (some_by_kinds trees)

-- symbols without reasons are spelled by what they are
pub letters_spelled : (ss : List Symbol) → list_any has_text (map kind_of ss) ≡ false → map letter (map kind_of ss) ≡ flat_map symbol_text ss
letters_spelled [] e = refl
letters_spelled (symbol.CutB ∷ ss) e = ap (λ l. 66 ∷ l) (letters_spelled ss e)
letters_spelled (symbol.CutL ∷ ss) e = ap (λ l. 76 ∷ l) (letters_spelled ss e)
letters_spelled (symbol.CutR bound text ∷ ss) e = absurd cc
letters_spelled (symbol.Branch n ∷ ss) e = ap (λ l. 88 ∷ l) (letters_spelled ss e)
letters_spelled (symbol.Given ∷ ss) e = ap (λ l. 71 ∷ l) (letters_spelled ss e)

-- the symbols of one tree more
pub each_push : (trees : List Tree) (tree : Tree) → symbols_of_each' (row trees) ++ symbols tree ≡ symbols_of_each' (row (trees ++ tree ∷ []))
each_push [] tree = sym (append-nil (symbols tree))
each_push (t ∷ trees) tree = append_assoc (symbols t) (symbols_of_each' (row trees)) (symbols tree) ∙ ap (λ l. symbols t ++ l) (each_push trees tree)
