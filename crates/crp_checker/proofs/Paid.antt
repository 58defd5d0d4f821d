-- What a symbol pays of what is owed.
use Rattle.std.proofs.Common.{◌≡◌, ℕ, List, [], ◌∷◌, ◌++◌, refl, sym, ap, ◌∙◌, arith, append-nil, append_assoc}
use Rattle.std.specs.Prelude.{codes}
use Rattle.std.specs.List.{flat_map}
use Rattle.std.specs.Fmt.{decimal}
use Rattle.crp_row.specs.Reasons.{AreReasons, reasons_text}
use Rattle.crp_cert.proofs.Readers.{once}
use Rattle.crp_cert.proofs.Reasons.{reasons_reader}
use Rattle.std.proofs.lemmas.List.Concat.{flat_map-append}
use Rattle.crp_plan.specs.Bay.{Position}
use Rattle.crp_bay.specs.Positions.{targets}
use Rattle.crp_tree.specs.Tree.{Tree, CutB, CutL, CutR, Branch, Given, Trees, no_trees, one_and, items, row}
use Rattle.crp_tree.specs.Mark.{Mark}
use Rattle.crp_tree.specs.Mark.{B, L, R, X, G}
use Rattle.crp_tree.specs.Trees.{nodes, spelled, Fits}
use Rattle.crp_tree.specs.Listed.{AreFit}
use Rattle.crp_tree.proofs.Listed.{branch_of, list_fits}
use Rattle.crp_tree.proofs.Paying.{Split, split, nodes_joined, rows_fit, nodes_of_rows}
use Rattle.crp_cert.specs.Script.{symbols_of, symbols_of_each}
use Rattle.crp_cert.proofs.Symbols.{branch_read}
use Rattle.crp_tree.specs.Spots.{Spot, node_at, spots_below, owed_behind, Pay, nodes_of_all}

-- ---- what pays two lists of spots

-- trees that pay the first, and trees that pay the second, pay both
joined : (owed more : List Spot) (first second : List Tree) → Pay owed first → Pay more second → Pay (owed ++ more) (first ++ second)
joined [] more [] second pays pays_more = pays_more
joined [] more (tree ∷ first) second pays pays_more = absurd pays
joined (spot ∷ owed) more [] second pays pays_more = absurd pays
joined (spot ∷ owed) more (tree ∷ first) second pays pays_more = (pays.0, joined owed more first second pays.1 pays_more)

-- ---- the trees of a branch

-- the trees of a branch pay its rows
each_pays : (path : List ℕ) (s : Position) (rows : List ℕ) (trees : List Tree) → AreFit s rows trees → Pay (spots_below path s rows) trees
each_pays path s [] [] fit = tt
each_pays path s [] (tree ∷ trees) fit = absurd fit
each_pays path s (row ∷ rows) [] fit = absurd fit
each_pays path s (row ∷ rows) (tree ∷ trees) fit = (fit.0, each_pays path s rows trees fit.1)

each_symbols : (all : Trees) → symbols_of_each all ≡ flat_map symbols_of (items all)
each_symbols no_trees = refl
each_symbols (one_and tree trees) = ap (λ l. symbols_of tree ++ l) (each_symbols trees)

-- ---- one symbol

-- trees that pay what is owed behind a symbol, with the symbol before them, make up trees that pay what was owed before it
pub record IsPaid (mark : Mark) (spot : Spot) (owed : List Spot) (trees : List Tree) : Type 0 where
  pub first : Tree
  pub others : List Tree
  pub pays : Fits spot.place first × Pay owed others
  pub symbols_are : symbols_of first ++ flat_map symbols_of others ≡ spelled mark ++ flat_map symbols_of trees
  pub nodes_are : nodes spot.path spot.place first ++ nodes_of_all owed others ≡ node_at spot mark ∷ nodes_of_all (owed_behind mark spot owed) trees

-- a branch whose trees pay
branch_paid : (spot : Spot) (owed : List Spot) (trees : List Tree) → Split (spots_below spot.path spot.place (targets spot.place)) owed trees → IsPaid X spot owed trees
branch_paid spot owed trees r =
    let below : List Spot = spots_below spot.path spot.place (targets spot.place) in
    let made = branch_read spot.place (88 ∷ flat_map symbols_of r.first) r.first [] (rows_fit spot.path spot.place (targets spot.place) r.first r.pays)
    (sym (append-nil (codes "X" ++ flat_map symbols_of r.first))) in
    let text : symbols_of (Branch (row r.first)) ≡ 88 ∷ flat_map symbols_of r.first = sym (append-nil (symbols_of (Branch (row r.first)))) ∙ sym made.1 in
    let shown = branch_of r.first in
    record {
      first = Branch (row r.first);
      others = r.second;
      pays = (made.0, r.pays_others);
      symbols_are = ap (λ l. l ++ flat_map symbols_of r.second) text ∙ ap (λ l. 88 ∷ l) (sym (flat_map-append symbols_of r.first r.second) ∙ ap (flat_map symbols_of) (sym r.are));
      nodes_are =
          ap (λ l. l ++ nodes_of_all owed r.second) (shown.nodes_are spot.path spot.place)
          ∙ ap (λ l. node_at spot X ∷ l) (ap (λ l. l ++ nodes_of_all owed r.second) (nodes_of_rows spot.path spot.place (targets spot.place) r.first)
          ∙ sym (nodes_joined below owed r.first r.second r.pays) ∙ ap (nodes_of_all (below ++ owed)) (sym r.are));
    }

-- what may be spelled
abbrev pub CanBe : Mark → Type 0
CanBe B = Unit {0}
CanBe L = Unit {0}
CanBe (R bound text) = AreReasons bound text
CanBe X = Unit {0}
CanBe G = Unit {0}

pub pay : (mark : Mark) (spot : Spot) (owed : List Spot) (trees : List Tree) → CanBe mark → Pay (owed_behind mark spot owed) trees → IsPaid mark spot owed trees
pay B spot owed trees can pays = record { first = CutB; others = trees; pays = (tt, pays); symbols_are = refl; nodes_are = refl }
pay L spot owed trees can pays = record { first = CutL; others = trees; pays = (tt, pays); symbols_are = refl; nodes_are = refl }
pay (R bound text) spot owed trees can pays = record { first = CutR bound text; others = trees; pays = (can, pays); symbols_are = refl; nodes_are = refl }
pay X spot owed trees can pays = branch_paid spot owed trees (split (spots_below spot.path spot.place (targets spot.place)) owed trees pays)
pay G spot owed trees can pays = record { first = Given; others = trees; pays = (tt, pays); symbols_are = refl; nodes_are = refl }

-- ---- the symbol of a tree

-- texts that are equal begin with the same byte
heads : (x y : ℕ) (xs ys : List ℕ) → x ∷ xs ≡ y ∷ ys → x ≡ y
heads x y xs ys e = cc

-- and are equal from there on
tails : (x y : ℕ) (xs ys : List ℕ) → x ∷ xs ≡ y ∷ ys → xs ≡ ys
tails x y xs ys e = cc

-- texts that begin with unequal bytes are not equal
unlike : (x y : ℕ) (xs ys : List ℕ) → (x ≡ y → ⊥) → x ∷ xs ≡ y ∷ ys → ⊥
unlike x y xs ys ne e = ne (heads x y xs ys e)

-- what follows the symbol of a tree and others is what pays what is owed behind it, and what follows that
abbrev pub Behind : Mark → Spot → List Spot → List ℕ → List ℕ → Type 0
Behind mark spot owed more rest = (trees : List Tree) × Pay (owed_behind mark spot owed) trees × (more ≡ flat_map symbols_of trees ++ rest)

-- what stands behind the bracket of reasons
abbrev reasons_behind : ℕ → List ℕ → List ℕ
reasons_behind bound text = decimal bound ++ (codes ":" ++ (text ++ codes "]"))

pub behind : (mark : Mark) (spot : Spot) (owed : List Spot) (tree : Tree) (trees : List Tree) (more rest : List ℕ) → CanBe mark → Fits spot.place tree → Pay owed trees →
    spelled mark ++ more ≡ (symbols_of tree ++ flat_map symbols_of trees) ++ rest → Behind mark spot owed more rest
behind B spot owed CutB trees more rest can m pays e = (trees, pays, tails 66 66 more (flat_map symbols_of trees ++ rest) e)
behind B spot owed CutL trees more rest can m pays e = absurd (unlike 66 76 more (flat_map symbols_of trees ++ rest) (λ h. omega arith) e)
behind B spot owed (CutR bound' text') trees more rest can m pays e = absurd (unlike 66 91 more ((reasons_behind bound' text' ++ flat_map symbols_of trees) ++ rest) (λ h. omega arith) e)
behind B spot owed (Branch all) trees more rest can m pays e = absurd (unlike 66 88 more ((symbols_of_each all ++ flat_map symbols_of trees) ++ rest) (λ h. omega arith) e)
behind B spot owed Given trees more rest can m pays e = absurd (unlike 66 71 more (flat_map symbols_of trees ++ rest) (λ h. omega arith) e)
behind L spot owed CutB trees more rest can m pays e = absurd (unlike 76 66 more (flat_map symbols_of trees ++ rest) (λ h. omega arith) e)
behind L spot owed CutL trees more rest can m pays e = (trees, pays, tails 76 76 more (flat_map symbols_of trees ++ rest) e)
behind L spot owed (CutR bound' text') trees more rest can m pays e = absurd (unlike 76 91 more ((reasons_behind bound' text' ++ flat_map symbols_of trees) ++ rest) (λ h. omega arith) e)
behind L spot owed (Branch all) trees more rest can m pays e = absurd (unlike 76 88 more ((symbols_of_each all ++ flat_map symbols_of trees) ++ rest) (λ h. omega arith) e)
behind L spot owed Given trees more rest can m pays e = absurd (unlike 76 71 more (flat_map symbols_of trees ++ rest) (λ h. omega arith) e)
behind (R bound text) spot owed CutB trees more rest can m pays e = absurd (unlike 91 66 (reasons_behind bound text ++ more) (flat_map symbols_of trees ++ rest) (λ h. omega arith) e)
behind (R bound text) spot owed CutL trees more rest can m pays e = absurd (unlike 91 76 (reasons_behind bound text ++ more) (flat_map symbols_of trees ++ rest) (λ h. omega arith) e)
behind (R bound text) spot owed (CutR bound' text') trees more rest can m pays e =
    let r = once reasons_reader (bound, text) (bound', text') more (flat_map symbols_of trees ++ rest) can m (e ∙ append_assoc (reasons_text bound' text') (flat_map symbols_of trees) rest) in
    (trees, pays, r.1)
behind (R bound text) spot owed (Branch all) trees more rest can m pays e = absurd (unlike 91 88 (reasons_behind bound text ++ more) ((symbols_of_each all ++ flat_map symbols_of trees) ++ rest) (λ h. omega arith) e)
behind (R bound text) spot owed Given trees more rest can m pays e = absurd (unlike 91 71 (reasons_behind bound text ++ more) (flat_map symbols_of trees ++ rest) (λ h. omega arith) e)
behind X spot owed CutB trees more rest can m pays e = absurd (unlike 88 66 more (flat_map symbols_of trees ++ rest) (λ h. omega arith) e)
behind X spot owed CutL trees more rest can m pays e = absurd (unlike 88 76 more (flat_map symbols_of trees ++ rest) (λ h. omega arith) e)
behind X spot owed (CutR bound' text') trees more rest can m pays e = absurd (unlike 88 91 more ((reasons_behind bound' text' ++ flat_map symbols_of trees) ++ rest) (λ h. omega arith) e)
behind X spot owed (Branch all) trees more rest can m pays e =
    let below : List Tree = items all in (
      below ++ trees,
      joined (spots_below spot.path spot.place (targets spot.place)) owed below trees (each_pays spot.path spot.place (targets spot.place) below (list_fits spot.place (targets spot.place) all m)) pays,
      tails 88 88 more ((symbols_of_each all ++ flat_map symbols_of trees) ++ rest) e
          ∙ ap (λ l. l ++ rest) (ap (λ l. l ++ flat_map symbols_of trees) (each_symbols all) ∙ sym (flat_map-append symbols_of below trees)),
    )
behind X spot owed Given trees more rest can m pays e = absurd (unlike 88 71 more (flat_map symbols_of trees ++ rest) (λ h. omega arith) e)
behind G spot owed CutB trees more rest can m pays e = absurd (unlike 71 66 more (flat_map symbols_of trees ++ rest) (λ h. omega arith) e)
behind G spot owed CutL trees more rest can m pays e = absurd (unlike 71 76 more (flat_map symbols_of trees ++ rest) (λ h. omega arith) e)
behind G spot owed (CutR bound' text') trees more rest can m pays e = absurd (unlike 71 91 more ((reasons_behind bound' text' ++ flat_map symbols_of trees) ++ rest) (λ h. omega arith) e)
behind G spot owed (Branch all) trees more rest can m pays e = absurd (unlike 71 88 more ((symbols_of_each all ++ flat_map symbols_of trees) ++ rest) (λ h. omega arith) e)
behind G spot owed Given trees more rest can m pays e = (trees, pays, tails 71 71 more (flat_map symbols_of trees ++ rest) e)
