-- A symbol more at the end of a row, or one less at its front.
use Rattle.std.proofs.Common.{◌≡◌, ℕ, suc, ◌==◌, ◌||◌, false, not, List, [], ◌∷◌, ◌++◌, length, map, refl, sym, ap, ◌∙◌, arith}
use Rattle.std.specs.List.{list_any}
use Rattle.std.proofs.Math.Bool.{or-false}
use Rattle.std.proofs.lemmas.List.{length-map}
use Rattle.std.proofs.lemmas.List.Folds.{list_any-append}
use Rattle.crp_row.specs.Symbol.{CutB, CutL, CutR, Branch, Given}
use Rattle.crp_row.specs.declared.kind.Kind.{Kind}
use Rattle.crp_row.specs.declared.kind.Kind.TheVariants as kind
use Rattle.crp_row.specs.Rows.{symbol_of, has_text, gives_away, kind_of, symbols_of, texts_in}

-- one without a text
alone : (k : Kind) (texts : List (List ℕ)) (text : List ℕ) → has_text k ≡ false → symbols_of (k ∷ []) texts ≡ symbol_of k text ∷ []
alone kind.CutB texts text none = refl
alone kind.CutL texts text none = refl
alone (kind.CutR bound) texts text none = cc
alone (kind.Branch n) texts text none = refl
alone kind.Given texts text none = refl

pub one_more : (kinds : List Kind) (texts : List (List ℕ)) (k : Kind) (text : List ℕ) → has_text k ≡ false → symbols_of (kinds ++ k ∷ []) texts ≡ symbols_of kinds texts ++ symbol_of k text ∷ []
one_more [] texts k text none = alone k texts text none
one_more (kind.CutB ∷ kinds) texts k text none = ap (λ l. CutB ∷ l) (one_more kinds texts k text none)
one_more (kind.CutL ∷ kinds) texts k text none = ap (λ l. CutL ∷ l) (one_more kinds texts k text none)
one_more (kind.CutR bound ∷ kinds) [] k text none = ap (λ l. CutR bound [] ∷ l) (one_more kinds [] k text none)
one_more (kind.CutR bound ∷ kinds) (t ∷ texts) k text none = ap (λ l. CutR bound t ∷ l) (one_more kinds texts k text none)
one_more (kind.Branch n ∷ kinds) texts k text none = ap (λ l. Branch n ∷ l) (one_more kinds texts k text none)
one_more (kind.Given ∷ kinds) texts k text none = ap (λ l. Given ∷ l) (one_more kinds texts k text none)

-- one with a text
pub text_more : (kinds : List Kind) (texts : List (List ℕ)) (bound : ℕ) (text : List ℕ) → texts_in kinds ≡ length texts →
    symbols_of (kinds ++ kind.CutR bound ∷ []) (texts ++ text ∷ []) ≡ symbols_of kinds texts ++ CutR bound text ∷ []
text_more [] [] bound text all = refl
text_more [] (t ∷ texts) bound text all = absurd (omega (arith, all))
text_more (kind.CutB ∷ kinds) texts bound text all = ap (λ l. CutB ∷ l) (text_more kinds texts bound text all)
text_more (kind.CutL ∷ kinds) texts bound text all = ap (λ l. CutL ∷ l) (text_more kinds texts bound text all)
text_more (kind.CutR b ∷ kinds) [] bound text all = absurd (omega (arith, all))
text_more (kind.CutR b ∷ kinds) (t ∷ texts) bound text all = ap (λ l. CutR b t ∷ l) (text_more kinds texts bound text (omega (arith, all)))
text_more (kind.Branch n ∷ kinds) texts bound text all = ap (λ l. Branch n ∷ l) (text_more kinds texts bound text all)
text_more (kind.Given ∷ kinds) texts bound text all = ap (λ l. Given ∷ l) (text_more kinds texts bound text all)

-- how many texts there are then
texts_alone : (k : Kind) → has_text k ≡ false → texts_in (k ∷ []) ≡ 0
texts_alone kind.CutB none = refl
texts_alone kind.CutL none = refl
texts_alone (kind.CutR bound) none = cc
texts_alone (kind.Branch n) none = refl
texts_alone kind.Given none = refl

pub same_texts : (kinds : List Kind) (k : Kind) → has_text k ≡ false → texts_in (kinds ++ k ∷ []) ≡ texts_in kinds
same_texts [] k none = texts_alone k none
same_texts (kind.CutB ∷ kinds) k none = same_texts kinds k none
same_texts (kind.CutL ∷ kinds) k none = same_texts kinds k none
same_texts (kind.CutR bound ∷ kinds) k none = ap suc (same_texts kinds k none)
same_texts (kind.Branch n ∷ kinds) k none = same_texts kinds k none
same_texts (kind.Given ∷ kinds) k none = same_texts kinds k none

pub texts_more : (kinds : List Kind) (bound : ℕ) → texts_in (kinds ++ kind.CutR bound ∷ []) ≡ suc (texts_in kinds)
texts_more [] bound = refl
texts_more (kind.CutB ∷ kinds) bound = texts_more kinds bound
texts_more (kind.CutL ∷ kinds) bound = texts_more kinds bound
texts_more (kind.CutR b ∷ kinds) bound = ap suc (texts_more kinds bound)
texts_more (kind.Branch n ∷ kinds) bound = texts_more kinds bound
texts_more (kind.Given ∷ kinds) bound = texts_more kinds bound

-- the kinds of the symbols are the kinds
pub same_kinds : (kinds : List Kind) (texts : List (List ℕ)) → map kind_of (symbols_of kinds texts) ≡ kinds
same_kinds [] texts = refl
same_kinds (kind.CutB ∷ kinds) texts = ap (λ l. kind.CutB ∷ l) (same_kinds kinds texts)
same_kinds (kind.CutL ∷ kinds) texts = ap (λ l. kind.CutL ∷ l) (same_kinds kinds texts)
same_kinds (kind.CutR bound ∷ kinds) [] = ap (λ l. kind.CutR bound ∷ l) (same_kinds kinds [])
same_kinds (kind.CutR bound ∷ kinds) (t ∷ texts) = ap (λ l. kind.CutR bound ∷ l) (same_kinds kinds texts)
same_kinds (kind.Branch n ∷ kinds) texts = ap (λ l. kind.Branch n ∷ l) (same_kinds kinds texts)
same_kinds (kind.Given ∷ kinds) texts = ap (λ l. kind.Given ∷ l) (same_kinds kinds texts)

-- the front of a row
pub front : (k : Kind) (kinds : List Kind) (texts : List (List ℕ)) (text : List ℕ) → has_text k ≡ false → symbols_of (k ∷ kinds) texts ≡ symbol_of k text ∷ symbols_of kinds texts
front kind.CutB kinds texts text none = refl
front kind.CutL kinds texts text none = refl
front (kind.CutR bound) kinds texts text none = cc
front (kind.Branch n) kinds texts text none = refl
front kind.Given kinds texts text none = refl

pub fewer_texts : (k : Kind) (kinds : List Kind) → has_text k ≡ false → texts_in (k ∷ kinds) ≡ texts_in kinds
fewer_texts kind.CutB kinds none = refl
fewer_texts kind.CutL kinds none = refl
fewer_texts (kind.CutR bound) kinds none = cc
fewer_texts (kind.Branch n) kinds none = refl
fewer_texts kind.Given kinds none = refl

-- and there are as many
pub as_many : (kinds : List Kind) (texts : List (List ℕ)) → length (symbols_of kinds texts) ≡ length kinds
as_many kinds texts = sym (length-map (symbols_of kinds texts) kind_of) ∙ ap length (same_kinds kinds texts)

-- one gives a subtree away, with one more
pub one_more_gives : (kinds : List Kind) (k : Kind) → list_any gives_away (kinds ++ k ∷ []) ≡ (list_any gives_away kinds || gives_away k)
one_more_gives kinds k = list_any-append gives_away kinds (k ∷ []) ∙ ap (λ b. list_any gives_away kinds || b) (or-false (gives_away k))

-- one has a text where there are texts
pub some_text : (kinds : List Kind) (texts : List (List ℕ)) → texts_in kinds ≡ length texts → not (length texts == 0) ≡ list_any has_text (map kind_of (symbols_of kinds texts))
some_text kinds texts all = ap (λ n. not (n == 0)) (sym all) ∙ counted kinds ∙ ap (list_any has_text) (sym (same_kinds kinds texts))
  where
    counted : (kinds : List Kind) → not (texts_in kinds == 0) ≡ list_any has_text kinds
    counted [] = refl
    counted (kind.CutB ∷ kinds) = counted kinds
    counted (kind.CutL ∷ kinds) = counted kinds
    counted (kind.CutR bound ∷ kinds) = grind (arith)
    counted (kind.Branch n ∷ kinds) = counted kinds
    counted (kind.Given ∷ kinds) = counted kinds
