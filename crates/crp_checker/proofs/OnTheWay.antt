-- What is known after each symbol of a part.
use Rattle.std.proofs.Common.{◌≡◌, ℕ, suc, ◌+◌, ◌<◌, Bool, true, false, IsTrue, ◌↔◌, cond, nat_lt, ◌==◌, List, [], ◌∷◌, ◌++◌, length, Option, Some, None, refl, sym, ap, ◌∙◌, subst, arith, append_assoc, append-nil, length-append, eq-eqb}
use Rattle.std.specs.Option.{option_or}
use Rattle.std.specs.List.{AllByRecursion, flat_map}
use Rattle.std.proofs.lemmas.Bool.{ltb-true, lt-ltb, eqb-true}
use Rattle.std.proofs.lemmas.Grind.{flat_map-append}
use Rattle.crp_row.specs.Reasons.{AreReasons, reasons_text}
use Rattle.crp_thinning.specs.Symbols.{Closes}
use Rattle.crp_bounds.specs.Bounds.{blocking, look_ahead}
use Rattle.crp_tree.specs.Tree.{Tree, CutB, CutL, CutR, Branch, Given}
use Rattle.crp_tree.specs.Mark.{Mark}
use Rattle.crp_tree.specs.Mark.{B, L, R, X, G}
use Rattle.crp_tree.specs.Trees.{Node, nodes, spelled, given_names, is_cut}
use Rattle.crp_tree.proofs.Nodes.{given_names-append}
use Rattle.crp_cert.specs.Script.{symbols_of}
use Rattle.crp_cert.specs.ScriptFaults.{BeginsWithTree}
use Rattle.crp_checker.specs.declared.wrong.Wrong.{Wrong}
use Rattle.crp_checker.specs.declared.wrong.Wrong.TheVariants.{Low, AtEnd, Unshown}
use Rattle.crp_checker.specs.Nodes.{IsLow, IsAtEnd, IsUnshown, IsRight, IsFirstWrong}
use Rattle.crp_tree.specs.Spots.{Spot, node_at, owed_behind, Pay, nodes_of_all}
use Rattle.crp_checker.specs.Gathered.{gathered, joined}
use Rattle.crp_checker.proofs.Gathering.{gathered_joined, joined_none}
use Rattle.crp_checker.specs.Symbols.{Walked, wrong_at, walked_on, unshown_at, walked_by, begun, IsFirstOf, IsCompleted, IsOnItsWay}
use Rattle.crp_checker.proofs.Paid.{CanBe, IsPaid, pay, Behind, behind}
use Rattle.crp_cert.proofs.Joined.{all_both}

-- ---- the first wrong node

-- what a test decides
decided : (need : List ℕ → ℕ) (list : List Node) (test : Bool) (wrong : Wrong) → (test ≡ true → IsFirstOf need list (Some wrong)) → (test ≡ false → IsFirstOf need list None) → IsFirstOf need list (cond test (Some wrong) None)
decided need list true wrong y n = y refl
decided need list false wrong y n = n refl

-- the last node, where it is wrong and those before it are right
last_wrong : (need : List ℕ → ℕ) (Wrong : Node → Type 0) (before : List Node) (node : Node) (k : ℕ) → AllByRecursion (IsRight need) before → k ≡ length before + 1 → Wrong node → IsFirstWrong need Wrong (before ++ node ∷ []) k
last_wrong need Wrong before node k right number wrong = record { before = before; node = node; after = []; list_is = refl; number = number; right = right; wrong = wrong }

-- the last node, where it is right as those before it
last_right : (need : List ℕ → ℕ) (before : List Node) (node : Node) → AllByRecursion (IsRight need) before → IsRight need node → AllByRecursion (IsRight need) (before ++ node ∷ [])
last_right need before node right own = all_both (IsRight need) before (node ∷ []) right (own, tt)

-- a cut whose value passes the test is not below
not_low : (value least : ℕ) → nat_lt value least ≡ false → value < least → ⊥
not_low value least f lt = let t = lt-ltb value least lt in absurd cc

-- a mark that is no branch's
no_branch : (mark : Mark) → is_cut mark ≡ true → mark ≡ X → ⊥
no_branch mark cut e = let c : is_cut X ≡ true = subst (λ m. is_cut m ≡ true) e cut in cc

-- one that is no cut's
no_cut : (mark : Mark) → is_cut mark ≡ false → is_cut mark ≡ true → ⊥
no_cut mark not cut = cc

-- the mark of a letter
abbrev pub IsLetter : Mark → Type 0
IsLetter B = Unit {0}
IsLetter L = Unit {0}
IsLetter (R bound text) = ⊥
IsLetter X = Unit {0}
IsLetter G = Unit {0}

pub letter_can : (mark : Mark) → IsLetter mark → CanBe mark
letter_can B is = tt
letter_can L is = tt
letter_can (R bound text) is = absurd is
letter_can X is = tt
letter_can G is = tt

-- the node of one more symbol, where all before it are right
wrong_next : (need : List ℕ → ℕ) (k : ℕ) (mark : Mark) (spot : Spot) (before : List Node) → IsLetter mark → AllByRecursion (IsRight need) before → k ≡ length before + 1 → IsFirstOf need (before ++ node_at spot mark ∷ []) (wrong_at need k mark spot)
wrong_next need k B spot before is right number =
    decided need (before ++ node_at spot B ∷ []) (nat_lt (length spot.path + blocking spot.place) (need spot.path)) (Low k)
    (λ t. last_wrong need (IsLow need) before (node_at spot B) k right number (refl, ltb-true (length spot.path + blocking spot.place) (need spot.path) t))
    (λ f. last_right need before (node_at spot B) right (record { not_low = λ low. not_low (length spot.path + blocking spot.place) (need spot.path) f low.1; not_at_end = λ end. no_branch B refl end.0; shown = tt }))
wrong_next need k L spot before is right number =
    decided need (before ++ node_at spot L ∷ []) (nat_lt (length spot.path + look_ahead spot.place) (need spot.path)) (Low k)
    (λ t. last_wrong need (IsLow need) before (node_at spot L) k right number (refl, ltb-true (length spot.path + look_ahead spot.place) (need spot.path) t))
    (λ f. last_right need before (node_at spot L) right (record { not_low = λ low. not_low (length spot.path + look_ahead spot.place) (need spot.path) f low.1; not_at_end = λ end. no_branch L refl end.0; shown = tt }))
wrong_next need k (R bound text) spot before is right number = absurd is
wrong_next need k X spot before is right number =
    decided need (before ++ node_at spot X ∷ []) (spot.place.next == suc spot.place.ordered) (AtEnd k)
    (λ t. last_wrong need IsAtEnd before (node_at spot X) k right number (refl, eqb-true spot.place.next (suc spot.place.ordered) t))
    (λ f. last_right need before (node_at spot X) right (record { not_low = λ low. no_cut X refl low.0; not_at_end = λ end. let t = eq-eqb spot.place.next (suc spot.place.ordered) end.1 in absurd cc; shown = tt }))
wrong_next need k G spot before is right number = last_right need before (node_at spot G) right (record { not_low = λ low. no_cut G refl low.0; not_at_end = λ end. no_given end.0; shown = tt })
  where
    no_given : G ≡ X → ⊥
    no_given e = cc

-- a node that was wrong stays the first, whatever follows
still_wrong : (need : List ℕ → ℕ) (Wrong : Node → Type 0) (list : List Node) (node : Node) (k : ℕ) → IsFirstWrong need Wrong list k → IsFirstWrong need Wrong (list ++ node ∷ []) k
still_wrong need Wrong list node k w = record {
  before = w.before;
  node = w.node;
  after = w.after ++ node ∷ [];
  list_is = ap (λ l. l ++ node ∷ []) w.list_is ∙ append_assoc w.before (w.node ∷ w.after) (node ∷ []);
  number = w.number;
  right = w.right;
  wrong = w.wrong;
}

wrong_after : (need : List ℕ → ℕ) (k : ℕ) (mark : Mark) (spot : Spot) (before : List Node) (wrong : Option Wrong) → IsLetter mark → IsFirstOf need before wrong → k ≡ length before + 1 →
    IsFirstOf need (before ++ node_at spot mark ∷ []) (option_or wrong (wrong_at need k mark spot))
wrong_after need k mark spot before None is first number = wrong_next need k mark spot before is first number
wrong_after need k mark spot before (Some (Low n)) is first number = still_wrong need (IsLow need) before (node_at spot mark) n first
wrong_after need k mark spot before (Some (AtEnd n)) is first number = still_wrong need IsAtEnd before (node_at spot mark) n first
wrong_after need k mark spot before (Some (Unshown n)) is first number = still_wrong need (IsUnshown need) before (node_at spot mark) n first

-- the same of reasons
reasons_after : (need : List ℕ → ℕ) (k bound : ℕ) (text : List ℕ) (shown : Bool) (spot : Spot) (before : List Node) (wrong : Option Wrong) → IsTrue shown ↔ Closes spot.place bound text → IsFirstOf need before wrong → k ≡ length before + 1 →
    IsFirstOf need (before ++ node_at spot (R bound text) ∷ []) (option_or (option_or wrong (wrong_at need k (R bound []) spot)) (unshown_at k shown))
reasons_after need k bound text shown spot before (Some (Low n)) closes first number = still_wrong need (IsLow need) before (node_at spot (R bound text)) n first
reasons_after need k bound text shown spot before (Some (AtEnd n)) closes first number = still_wrong need IsAtEnd before (node_at spot (R bound text)) n first
reasons_after need k bound text shown spot before (Some (Unshown n)) closes first number = still_wrong need (IsUnshown need) before (node_at spot (R bound text)) n first
reasons_after need k bound text shown spot before None closes first number = by_low (nat_lt (length spot.path + bound) (need spot.path)) refl shown refl
  where
    by_low : (t : Bool) → nat_lt (length spot.path + bound) (need spot.path) ≡ t → (u : Bool) → shown ≡ u → IsFirstOf need (before ++ node_at spot (R bound text) ∷ []) (option_or (cond t (Some (Low k)) None) (unshown_at k u))
    by_low true e u f = last_wrong need (IsLow need) before (node_at spot (R bound text)) k first number (refl, ltb-true (length spot.path + bound) (need spot.path) e)
    by_low false e true f = last_right need before (node_at spot (R bound text)) first (record {
      not_low = λ low. not_low (length spot.path + bound) (need spot.path) e low.1;
      not_at_end = λ end. no_branch (R bound text) refl end.0;
      shown = closes.0 f;
    })
    by_low false e false f = last_wrong need (IsUnshown need) before (node_at spot (R bound text)) k first number
        (λ low. not_low (length spot.path + bound) (need spot.path) e low.1, λ show. let t = closes.1 show in let no' : true ≡ false = sym t ∙ f in cc)

-- a walk begins
pub sets_out : (need : List ℕ → ℕ) (top : Spot) → IsOnItsWay need top [] (begun top)
sets_out need top = record {
  list = [];
  spell = refl;
  counted = refl;
  wrong = tt;
  given_are = refl;
  completes = alone;
  only = λ tree rest more m e. (tree ∷ [], (m, tt), e ∙ ap (λ l. l ++ rest) (sym (append-nil (symbols_of tree))));
}
  where
    alone : (trees : List Tree) → Pay (top ∷ []) trees → IsCompleted top [] [] (top ∷ []) trees
    alone [] pays = absurd pays
    alone (tree ∷ []) pays = record { tree = tree; fits = pays.0; symbols_are = sym (append-nil (symbols_of tree)); nodes_are = sym (append-nil (nodes top.path top.place tree)) }
    alone (tree ∷ other ∷ trees) pays = absurd pays.1

-- one symbol more, by which this is known
abbrev With : Mark → Spot → List Spot → Option Wrong → Walked → Walked
With mark spot owed wrong walked = record { owed = owed_behind mark spot owed; count = walked.count + 1; wrong = wrong; given = joined walked.given (gathered (given_names (node_at spot mark ∷ []))) }

more_known : (need : List ℕ → ℕ) (top : Spot) (symbols : List ℕ) (walked : Walked) (mark : Mark) (spot : Spot) (owed : List Spot) (wrong : Option Wrong) → CanBe mark → (way : IsOnItsWay need top symbols walked) → walked.owed ≡ spot ∷ owed →
    IsFirstOf need (way.list ++ node_at spot mark ∷ []) wrong → IsOnItsWay need top (symbols ++ spelled mark) (With mark spot owed wrong walked)
more_known need top symbols walked mark spot owed wrong can way e first = record {
  list = way.list ++ node_at spot mark ∷ [];
  spell = flat_map-append (λ (node : Node). spelled node.mark) way.list (node_at spot mark ∷ []) ∙ ap (λ l. l ++ (spelled mark ++ [])) way.spell ∙ ap (λ l. symbols ++ l) (append-nil (spelled mark));
  counted = omega (arith, way.counted, length-append way.list (node_at spot mark ∷ []));
  wrong = first;
  given_are =
      ap (λ kept. joined kept (gathered (given_names (node_at spot mark ∷ [])))) way.given_are ∙ sym (gathered_joined (given_names way.list) (given_names (node_at spot mark ∷ [])))
      ∙ ap gathered (sym (given_names-append way.list (node_at spot mark ∷ [])));
  completes = λ trees pays. completed trees (pay mark spot owed trees can pays);
  only = λ tree rest more m f. behind_it more rest (way.only tree rest (spelled mark ++ more) m (sym (append_assoc symbols (spelled mark) more) ∙ f));
}
  where
    completed : (trees : List Tree) → IsPaid mark spot owed trees → IsCompleted top (symbols ++ spelled mark) (way.list ++ node_at spot mark ∷ []) (owed_behind mark spot owed) trees
    completed trees p =
        let c = way.completes (p.first ∷ p.others) (subst (λ o. Pay o (p.first ∷ p.others)) (sym e) p.pays) in
        record {
          tree = c.tree;
          fits = c.fits;
          symbols_are = c.symbols_are ∙ ap (λ l. symbols ++ l) p.symbols_are ∙ sym (append_assoc symbols (spelled mark) (flat_map symbols_of trees));
          nodes_are = c.nodes_are ∙ ap (λ o. way.list ++ nodes_of_all o (p.first ∷ p.others)) e ∙ ap (λ l. way.list ++ l) p.nodes_are
              ∙ sym (append_assoc way.list (node_at spot mark ∷ []) (nodes_of_all (owed_behind mark spot owed) trees));
        }

    behind_it : (more rest : List ℕ) → (trees : List Tree) × Pay walked.owed trees × (spelled mark ++ more ≡ flat_map symbols_of trees ++ rest) → Behind mark spot owed more rest
    behind_it more rest r = by_trees r.0 (subst (λ o. Pay o r.0) e r.1) r.2
      where
        by_trees : (trees : List Tree) → Pay (spot ∷ owed) trees → spelled mark ++ more ≡ flat_map symbols_of trees ++ rest → Behind mark spot owed more rest
        by_trees [] pays f = absurd pays
        by_trees (tree ∷ trees) pays f = behind mark spot owed tree trees more rest can pays.0 pays.1 f

-- one letter more
pub goes_on : (need : List ℕ → ℕ) (top : Spot) (symbols : List ℕ) (walked : Walked) (mark : Mark) (spot : Spot) (owed : List Spot) → IsLetter mark → IsOnItsWay need top symbols walked → walked.owed ≡ spot ∷ owed →
    IsOnItsWay need top (symbols ++ spelled mark) (walked_on need mark spot owed walked)
goes_on need top symbols walked mark spot owed is way e =
    more_known need top symbols walked mark spot owed _ (letter_can mark is) way e (wrong_after need (walked.count + 1) mark spot way.list walked.wrong is way.wrong (ap (λ n. n + 1) way.counted))

-- reasons that do or do not show what they are to show
pub reasons_on : (need : List ℕ → ℕ) (top : Spot) (symbols : List ℕ) (walked : Walked) (bound : ℕ) (text : List ℕ) (shown : Bool) (spot : Spot) (owed : List Spot) → AreReasons bound text → IsTrue shown ↔ Closes spot.place bound text →
    IsOnItsWay need top symbols walked → walked.owed ≡ spot ∷ owed → IsOnItsWay need top (symbols ++ reasons_text bound text) (walked_by need bound shown spot owed walked)
reasons_on need top symbols walked bound text shown spot owed are closes way e =
    let known = more_known need top symbols walked (R bound text) spot owed _ are way e (reasons_after need (walked.count + 1) bound text shown spot way.list walked.wrong closes way.wrong (ap (λ n. n + 1) way.counted)) in
    subst (λ given. IsOnItsWay need top (symbols ++ reasons_text bound text) (record (walked_by need bound shown spot owed walked) { given = given })) (joined_none walked.given) known

-- ---- the end

-- where nothing is owed the symbols are those of a tree
pub whole : (need : List ℕ → ℕ) (top : Spot) (symbols : List ℕ) (walked : Walked) (way : IsOnItsWay need top symbols walked) → walked.owed ≡ [] → IsCompleted top symbols way.list [] []
whole need top symbols walked way e = subst (λ o. IsCompleted top symbols way.list o []) e (way.completes [] (subst (λ o. Pay o []) (sym e) tt))

-- a tree has a symbol
pub some_symbol : (tree : Tree) (rest : List ℕ) → [] ≡ symbols_of tree ++ rest → ⊥
some_symbol CutB rest e = cc
some_symbol CutL rest e = cc
some_symbol (CutR bound text) rest e = cc
some_symbol (Branch all) rest e = cc
some_symbol Given rest e = cc

-- while a tree is owed the symbols begin with no whole one
pub not_whole : (need : List ℕ → ℕ) (top : Spot) (symbols : List ℕ) (walked : Walked) (spot : Spot) (owed : List Spot) → IsOnItsWay need top symbols walked → walked.owed ≡ spot ∷ owed → ¬ BeginsWithTree top.place symbols
not_whole need top symbols walked spot owed way e stands =
    let r = way.only stands.0 stands.2.0 [] stands.1 (append-nil symbols ∙ stands.2.1) in
    by_trees r.0 (subst (λ o. Pay o r.0) e r.1) r.2
  where
    by_trees : (trees : List Tree) → Pay (spot ∷ owed) trees → [] ≡ flat_map symbols_of trees ++ stands.2.0 → ⊥
    by_trees [] pays f = pays
    by_trees (tree ∷ trees) pays f = some_symbol tree (flat_map symbols_of trees ++ stands.2.0) (f ∙ append_assoc (symbols_of tree) (flat_map symbols_of trees) stands.2.0)
