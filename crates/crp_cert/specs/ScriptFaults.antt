-- Which line of a whole certificate is the first that is not as said: the lines before it are, and this one is none that may stand there.
use Rattle.std.specs.Prelude.{◌≡◌, ◌≢◌, ◌≤◌, ◌⊎◌, ℕ, suc, ◌+◌, List, ◌∷◌, ◌++◌, length, All, AllPairs, codes, ⊤}
use Rattle.std.specs.List.{flat_map, AllByRecursion}
use Rattle.crp_plan.specs.Bay.{Problem, Position, IsAt}
use Rattle.crp_tree.specs.Tree.{Tree}
use Rattle.crp_tree.specs.Names.{Precedes}
use Rattle.crp_tree.specs.Claims.{Part, names}
use Rattle.crp_cert.specs.declared.head.Head.{Head}
use Rattle.crp_cert.specs.declared.fault.CertFault.{CertFault}
use Rattle.crp_cert.specs.declared.fault.CertFault.TheVariants as faults
use Rattle.crp_cert.specs.Text.{head_text, first_part, IsHead}
use Rattle.crp_cert.specs.Faults.{IsFirstFault}
use Rattle.crp_cert.specs.Script.{symbols_of, symbols_line, part_line, end_line, IsPartLine}
use Rattle.crp_tree.specs.Mark.{Mark, B, L, R, X, G}
use Rattle.crp_tree.specs.Trees.{Fits, spelled}
use Rattle.crp_row.specs.Reasons.{AreReasons}
use Rattle.crp_cert.specs.declared.version.Version.{Version}
use Rattle.crp_cert.specs.declared.version.Version.TheVariants.{Three}

-- the bytes begin with a head and these parts, which may stand there; the line after them has this number, and this follows from there on
pub record BeginsWithParts (bytes : List ℕ) (head : Head) (parts : List Part) (line : ℕ) (rest : List ℕ) : Type 0 where
  pub is_head : IsHead head
  pub each_part : All (IsPartLine head.version head.problem) parts
  pub rising : AllPairs Precedes (names parts)
  pub text : bytes ≡ head_text head ++ (flat_map part_line parts ++ rest)
  pub number : line ≡ first_part head + length parts

-- the bytes begin with a part line: its name has at most 8 rows and is a path of the problem; its symbols may be anything
pub record BeginsWithPart (p : Problem) (bytes : List ℕ) : Type 0 where
  pub name : List ℕ
  pub short : length name ≤ 8
  pub place : Position
  pub is_at : IsAt p name place
  pub symbols : List ℕ
  pub one_line : All (λ b. b ≢ 10) symbols
  pub after : List ℕ
  pub text : bytes ≡ symbols_line name symbols ++ after

-- the name comes after the names of these parts
abbrev pub ComesAfter : List Part → List ℕ → Type 0
ComesAfter parts name = All (λ part. Precedes part.name name) parts

-- a text of this version may spell the mark: version 3 alone spells reasons, and what may be such
abbrev pub MaySpell : Version → Mark → Type 0
MaySpell version B = ⊤
MaySpell version L = ⊤
MaySpell version (R bound text) = (version ≡ Three) × AreReasons bound text
MaySpell version X = ⊤
MaySpell version G = ⊤

-- the bytes spell marks, one after the other
pub record AreMarks (version : Version) (bytes : List ℕ) : Type 0 where
  pub marks : List Mark
  pub each : AllByRecursion (MaySpell version) marks
  pub are : bytes ≡ flat_map spelled marks

-- they are symbols of a version: each spells a mark, and the first is not G
pub record AreSymbols (version : Version) (symbols : List ℕ) : Type 0 where
  pub marks : AreMarks version symbols
  pub not_first : (rest : List ℕ) → symbols ≡ codes "G" ++ rest → ⊥

-- the symbols begin with those of a whole tree
abbrev pub BeginsWithTree : Position → List ℕ → Type 0
BeginsWithTree s symbols = (tree : Tree) × Fits s tree × ((rest : List ℕ) × (symbols ≡ symbols_of tree ++ rest))

-- more symbols follow those of a whole tree
abbrev pub GoesOnBehindTree : Position → List ℕ → Type 0
GoesOnBehindTree s symbols = (tree : Tree) × Fits s tree × ((b : ℕ) × (rest : List ℕ) × (symbols ≡ symbols_of tree ++ b ∷ rest))

-- what is wrong with the line that the bytes begin with, which has this number and stands after these parts. In a part line it is, in this
-- order: the name, its place among the names, the symbols, too few of them, too many
abbrev pub IsLineFault : Version → Problem → List Part → ℕ → List ℕ → CertFault → Type 0
IsLineFault version p parts line bytes (faults.Part n) = (n ≡ line) × ((after : List ℕ) × (bytes ≡ codes "part " ++ after)) × ¬ BeginsWithPart p bytes
IsLineFault version p parts line bytes (faults.Order n) = (n ≡ line) × ((part : BeginsWithPart p bytes) × ¬ ComesAfter parts part.name)
IsLineFault version p parts line bytes (faults.Symbol n) =
    (n ≡ line) × ((part : BeginsWithPart p bytes) × ComesAfter parts part.name × ¬ AreSymbols version part.symbols)
IsLineFault version p parts line bytes (faults.Unfinished n) =
    (n ≡ line) × ((part : BeginsWithPart p bytes) × ComesAfter parts part.name × AreSymbols version part.symbols × ¬ BeginsWithTree part.place part.symbols)
IsLineFault version p parts line bytes (faults.Trailing n) =
    (n ≡ line) × ((part : BeginsWithPart p bytes) × ComesAfter parts part.name × AreSymbols version part.symbols × GoesOnBehindTree part.place part.symbols)
IsLineFault version p parts line bytes (faults.End n) =
    ◌⊎◌
    ((n ≡ line) × ((after : List ℕ) → bytes ≡ codes "part " ++ after → ⊥) × ((after : List ℕ) → bytes ≡ end_line (length parts) ++ after → ⊥))
    ((n ≡ suc line) × ((b : ℕ) × (after : List ℕ) × (bytes ≡ end_line (length parts) ++ b ∷ after)))
IsLineFault version p parts line bytes _ = ⊥

-- the first line that is not as said, by what it should spell and its number from 1: one of the head, or the one after some parts
abbrev pub IsFirstFaultOfScript : List ℕ → CertFault → Type 0
IsFirstFaultOfScript bytes fault =
    ◌⊎◌
    (IsFirstFault bytes fault)
    ((head : Head) × (parts : List Part) × (line : ℕ) × (rest : List ℕ)
    × BeginsWithParts bytes head parts line rest × IsLineFault head.version head.problem parts line rest fault)
