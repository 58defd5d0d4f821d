-- How symbols are kept: what each of them is, in a row, and beside it the texts of those that have one, in another.
use Rattle.std.specs.Prelude.{◌≡◌, ℕ, suc, Bool, true, false, List, [], ◌∷◌}
use Rattle.std.proofs.Common.{refl}
use Rattle.std.specs.Coded.{Coded, code_by, coded×, coded_list, coded_ℕ}
use Rattle.crp_row.specs.Symbol.{Symbol, CutB, CutL, CutR, Branch, Given}
use Rattle.crp_row.specs.declared.kind.Kind.{Kind}
use Rattle.crp_row.specs.declared.kind.Kind.TheVariants as kind
use Rattle.crp_row.specs.contracts.kind.Kind as kept

-- the symbol of this kind, with this text if it has one
abbrev pub symbol_of : Kind → List ℕ → Symbol
symbol_of kind.CutB text = CutB
symbol_of kind.CutL text = CutL
symbol_of (kind.CutR bound) text = CutR bound text
symbol_of (kind.Branch n) text = Branch n
symbol_of kind.Given text = Given

-- a symbol of this kind has a text
abbrev pub has_text : Kind → Bool
has_text kind.CutB = false
has_text kind.CutL = false
has_text (kind.CutR bound) = true
has_text (kind.Branch n) = false
has_text kind.Given = false

-- a symbol of this kind gives a subtree away
abbrev pub gives_away : Kind → Bool
gives_away kind.CutB = false
gives_away kind.CutL = false
gives_away (kind.CutR bound) = false
gives_away (kind.Branch n) = false
gives_away kind.Given = true

-- what a symbol is
abbrev pub kind_of : Symbol → Kind
kind_of CutB = kind.CutB
kind_of CutL = kind.CutL
kind_of (CutR bound text) = kind.CutR bound
kind_of (Branch n) = kind.Branch n
kind_of Given = kind.Given

-- its text; of one that has none no byte
abbrev pub text_of : Symbol → List ℕ
text_of CutB = []
text_of CutL = []
text_of (CutR bound text) = text
text_of (Branch n) = []
text_of Given = []

-- the symbols of these kinds, each with its text, in order
abbrev pub symbols_of : List Kind → List (List ℕ) → List Symbol
symbols_of [] texts = []
symbols_of (kind.CutB ∷ kinds) texts = CutB ∷ symbols_of kinds texts
symbols_of (kind.CutL ∷ kinds) texts = CutL ∷ symbols_of kinds texts
symbols_of (kind.CutR bound ∷ kinds) [] = CutR bound [] ∷ symbols_of kinds []
symbols_of (kind.CutR bound ∷ kinds) (text ∷ texts) = CutR bound text ∷ symbols_of kinds texts
symbols_of (kind.Branch n ∷ kinds) texts = Branch n ∷ symbols_of kinds texts
symbols_of (kind.Given ∷ kinds) texts = Given ∷ symbols_of kinds texts

-- how many of them have a text
abbrev pub texts_in : List Kind → ℕ
texts_in [] = 0
texts_in (kind.CutB ∷ kinds) = texts_in kinds
texts_in (kind.CutL ∷ kinds) = texts_in kinds
texts_in (kind.CutR bound ∷ kinds) = suc (texts_in kinds)
texts_in (kind.Branch n ∷ kinds) = texts_in kinds
texts_in (kind.Given ∷ kinds) = texts_in kinds

-- symbols in a row, and for how many more there is room
pub record Row : Type 0 where
  pub symbols : List Symbol
  pub room : ℕ

-- ---- how they are coded

abbrev pair : Symbol → Kind × List ℕ
pair s = (kind_of s, text_of s)

abbrev unpair : Kind × List ℕ → Symbol
unpair p = symbol_of p.0 p.1

pub unpair_pair : (s : Symbol) → unpair (pair s) ≡ s
unpair_pair CutB = refl
unpair_pair CutL = refl
unpair_pair (CutR bound text) = refl
unpair_pair (Branch n) = refl
unpair_pair Given = refl

abbrev pub symbol_code : Coded Symbol
symbol_code = code_by (Kind × List ℕ) (coded× kept.the_row.coded (coded_list coded_ℕ)) pair unpair unpair_pair

abbrev pub row_code : Coded Row
row_code = code_by (List Symbol × ℕ) (coded× (coded_list symbol_code) coded_ℕ) (λ r. (r.symbols, r.room)) (λ p. record { symbols = p.0; room = p.1 }) (λ _. refl)
