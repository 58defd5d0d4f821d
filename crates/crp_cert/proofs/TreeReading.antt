-- Whether symbols begin with those of a tree is decided, by reading them.
use Rattle.std.proofs.Common.{◌≡◌, ℕ, zero, suc, ◌≤◌, ⊎_elim, cond, ◌==◌, List, [], ◌∷◌, ◌++◌, length, Option, Some, None, refl, sym, ap, ◌∙◌, arith, append_assoc, length-append}
use Rattle.std.proofs.lemmas.Bool.{eqb-true}
use Rattle.std.proofs.lemmas.Option.{same_Some}
use Rattle.crp_plan.specs.Bay.{Position}
use Rattle.crp_bay.specs.Positions.{child, targets}
use Rattle.crp_tree.specs.Tree.{Tree, CutB, CutL, CutR, Branch, Given, Trees, no_trees, one_and, row}
use Rattle.crp_cert.specs.Script.{symbols_of, symbols_of_each}
use Rattle.crp_row.specs.Reasons.{reasons_text}
use Rattle.crp_cert.specs.Reading.{◌>>=◌, reasons_at}
use Rattle.crp_cert.proofs.Reasons.{Reasons, reasons_reader}
use Rattle.crp_cert.proofs.Numbers.{bind_some, chosen}
use Rattle.std.specs.List.{flat_map}
use Rattle.crp_cert.proofs.Symbols.{branch_read}
use Rattle.crp_tree.specs.Trees.{Fits, FitsEach}
use Rattle.crp_tree.specs.Listed.{AreFit}

-- ---- what follows a tree

-- what follows one tree for each of the rows
abbrev behind_each : (Position → List ℕ → Option (List ℕ)) → Position → List ℕ → List ℕ → Option (List ℕ)
behind_each behind s [] bytes = Some bytes
behind_each behind s (row ∷ rows) bytes = behind (child s row) bytes >>= λ rest. behind_each behind s rows rest

-- what follows reasons
abbrev behind_reasons : Option (Reasons × List ℕ) → Option (List ℕ)
behind_reasons None = None
behind_reasons (Some x) = Some x.1

-- what follows a tree, which has no more levels than this
abbrev pub behind_tree : ℕ → Position → List ℕ → Option (List ℕ)
behind_tree zero s bytes = None
behind_tree (suc levels) s [] = None
behind_tree (suc levels) s (b ∷ bytes) =
    cond (b == 66) (Some bytes) (cond (b == 76) (Some bytes) (cond (b == 71) (Some bytes) (cond (b == 88) (behind_each (behind_tree levels) s (targets s) bytes) (behind_reasons (reasons_at (b ∷ bytes))))))

-- a tree is read again
mutual
  pub tree_again : (levels : ℕ) (s : Position) (tree : Tree) (rest : List ℕ) → length (symbols_of tree) ≤ levels → Fits s tree → behind_tree levels s (symbols_of tree ++ rest) ≡ Some rest
  tree_again zero s CutB rest few m = absurd (omega arith)
  tree_again zero s CutL rest few m = absurd (omega arith)
  tree_again zero s (CutR bound text) rest few m = absurd (omega arith)
  tree_again zero s (Branch all) rest few m = absurd (omega arith)
  tree_again zero s Given rest few m = absurd (omega arith)
  tree_again (suc levels) s CutB rest few m = refl
  tree_again (suc levels) s CutL rest few m = refl
  tree_again (suc levels) s (CutR bound text) rest few m = ap behind_reasons (reasons_reader.again (bound, text) rest m)
  tree_again (suc levels) s Given rest few m = refl
  tree_again (suc levels) s (Branch all) rest few m = each_again levels s (targets s) all rest (omega arith) m

  pub each_again : (levels : ℕ) (s : Position) (rows : List ℕ) (all : Trees) (rest : List ℕ) → length (symbols_of_each all) ≤ levels → FitsEach s rows all →
      behind_each (behind_tree levels) s rows (symbols_of_each all ++ rest) ≡ Some rest
  each_again levels s [] no_trees rest few m = refl
  each_again levels s [] (one_and tree trees) rest few m = absurd m
  each_again levels s (row ∷ rows) no_trees rest few m = absurd m
  each_again levels s (row ∷ rows) (one_and tree trees) rest few m =
      let long = length-append (symbols_of tree) (symbols_of_each trees) in
      ap (λ l. behind_tree levels (child s row) l >>= λ r. behind_each (behind_tree levels) s rows r) (append_assoc (symbols_of tree) (symbols_of_each trees) rest)
      ∙ ap (λ o. o >>= λ r. behind_each (behind_tree levels) s rows r) (tree_again levels (child s row) tree (symbols_of_each trees ++ rest) (omega arith) m.0)
      ∙ each_again levels s rows trees rest (omega arith) m.1

-- ---- the tree

-- trees before the rest
each_takes : (behind : Position → List ℕ → Option (List ℕ)) (s : Position) → ((row : ℕ) (bytes rest : List ℕ) → behind (child s row) bytes ≡ Some rest → (tree : Tree) × Fits (child s row) tree × (bytes ≡ symbols_of tree ++ rest)) →
    (rows bytes rest : List ℕ) → behind_each behind s rows bytes ≡ Some rest → (trees : List Tree) × AreFit s rows trees × (bytes ≡ flat_map symbols_of trees ++ rest)
each_takes behind s takes [] bytes rest e = ([], tt, same_Some bytes rest e)
each_takes behind s takes (row ∷ rows) bytes rest e =
    let x = bind_some (behind (child s row) bytes) (λ r. behind_each behind s rows r) rest e in
    let t = takes row bytes x.0 x.1 in
    let r = each_takes behind s takes rows x.0 rest x.2 in
    (t.0 ∷ r.0, (t.1, r.1), t.2 ∙ ap (λ l. symbols_of t.0 ++ l) r.2 ∙ sym (append_assoc (symbols_of t.0) (flat_map symbols_of r.0) rest))

-- what is read is a tree
pub tree_takes : (levels : ℕ) (s : Position) (bytes rest : List ℕ) → behind_tree levels s bytes ≡ Some rest → (tree : Tree) × Fits s tree × (bytes ≡ symbols_of tree ++ rest)
tree_takes zero s bytes rest e = absurd cc
tree_takes (suc levels) s [] rest e = absurd cc
tree_takes (suc levels) s (b ∷ bytes) rest e =
    ⊎_elim
    (λ cut. let is : b ≡ 66 = eqb-true b 66 cut.0 in (CutB, tt, ap (λ x. x ∷ bytes) is ∙ ap (λ l. 66 ∷ l) (same_Some bytes rest cut.1)))
    (λ more. ⊎_elim
    (λ cut. let is : b ≡ 76 = eqb-true b 76 cut.0 in (CutL, tt, ap (λ x. x ∷ bytes) is ∙ ap (λ l. 76 ∷ l) (same_Some bytes rest cut.1)))
    (λ further. ⊎_elim
    (λ away. let is : b ≡ 71 = eqb-true b 71 away.0 in (Given, tt, ap (λ x. x ∷ bytes) is ∙ ap (λ l. 71 ∷ l) (same_Some bytes rest away.1)))
    (λ branch. ⊎_elim
    (λ trees.
    let is : b ≡ 88 = eqb-true b 88 trees.0 in
    let r = each_takes (behind_tree levels) s (λ row l after f. tree_takes levels (child s row) l after f) (targets s) bytes rest trees.1 in
    let made = branch_read s (b ∷ bytes) r.0 rest r.1 (ap (λ x. x ∷ bytes) is ∙ ap (λ l. 88 ∷ l) r.2) in
    (Branch (row r.0), made.0, made.1))
    (λ reasons. by_reasons (reasons_at (b ∷ bytes)) refl reasons.1)
    (chosen (b == 88) (behind_each (behind_tree levels) s (targets s) bytes) last (Some rest) branch.1))
    (chosen (b == 71) (Some bytes) (cond (b == 88) (behind_each (behind_tree levels) s (targets s) bytes) last) (Some rest) further.1))
    (chosen (b == 76) (Some bytes) (cond (b == 71) (Some bytes) (cond (b == 88) (behind_each (behind_tree levels) s (targets s) bytes) last)) (Some rest) more.1))
    (chosen (b == 66) (Some bytes) (cond (b == 76) (Some bytes) (cond (b == 71) (Some bytes) (cond (b == 88) (behind_each (behind_tree levels) s (targets s) bytes) last))) (Some rest) e)
  where
    last : Option (List ℕ)
    last = behind_reasons (reasons_at (b ∷ bytes))

    by_reasons : (o : Option (Reasons × List ℕ)) → reasons_at (b ∷ bytes) ≡ o → behind_reasons o ≡ Some rest → (tree : Tree) × Fits s tree × (b ∷ bytes ≡ symbols_of tree ++ rest)
    by_reasons None f g = absurd cc
    by_reasons (Some x) f g =
        let t = reasons_reader.takes (b ∷ bytes) x.0 x.1 f in
        (CutR x.0.0 x.0.1, t.0, t.1 ∙ ap (λ l. reasons_text x.0.0 x.0.1 ++ l) (same_Some x.1 rest g))
