-- What is kept of a line of symbols, and what that says of the bytes that came.
use Rattle.std.specs.Prelude.{◌≡◌, ◌≢◌, ℕ, Bool, true, false, List, [], ◌∷◌, ◌++◌, Option, Some, None}
use Rattle.crp_plan.specs.Bay.{Position}
use Rattle.crp_reasons.specs.Rests.{Left, IsReading, HaveBegun}
use Rattle.crp_cert.specs.declared.version.Version.{Version}
use Rattle.crp_cert.specs.declared.version.Version.TheVariants.{Three}
use Rattle.crp_cert.specs.ScriptFaults.{AreSymbols}
use Rattle.crp_tree.specs.Spots.{Spot}
use Rattle.crp_checker.specs.declared.line.SymbolLine.{SymbolLine}
use Rattle.crp_checker.specs.Symbols.{Walked, walked_by, IsOnItsWay}
use Rattle.crp_checker.specs.Walks.{walked_at}

-- with this byte no reasons begin in a text of this version
abbrev pub BeginsNoReasons : Version → ℕ → Type 0
BeginsNoReasons version byte = version ≡ Three → byte ≡ 91 → ⊥

-- what is known of the trees
abbrev pub walked_in : SymbolLine → Walked
walked_in line = walked_at line.owing line.found.count line.found

-- the bytes are whole symbols: the front of those of a tree, and behind a whole tree others
pub record AreRead (need : List ℕ → ℕ) (version : Version) (top : Spot) (bytes : List ℕ) (walked : Walked) (trailing : Bool) : Type 0 where
  pub symbols : List ℕ
  pub rest : List ℕ
  pub bytes_are : bytes ≡ symbols ++ rest
  pub way : IsOnItsWay need top symbols walked
  pub are : AreSymbols version bytes
  pub none : trailing ≡ false → rest ≡ []
  pub some : trailing ≡ true → (walked.owed ≡ []) × (rest ≢ [])

-- behind whole symbols reasons have begun, and are read where the next tree is owed, if one is
pub record IsOpen (version : Version) (owed : List Spot) (done bytes : List ℕ) (left : Left) : Type 0 where
  pub front : List ℕ
  pub place : Position
  pub spells : version ≡ Three
  pub bytes_are : bytes ≡ done ++ 91 ∷ front
  pub begins : HaveBegun front
  pub reading : IsReading place front left
  pub next : (spot : Spot) (more : List Spot) → owed ≡ spot ∷ more → place ≡ spot.place

-- they have, or have not
abbrev pub HasOpen : Version → List Spot → List ℕ → List ℕ → Option Left → Type 0
HasOpen version owed done bytes None = bytes ≡ done
HasOpen version owed done bytes (Some left) = IsOpen version owed done bytes left

-- no byte was wrong
pub record IsRead (need : List ℕ → ℕ) (version : Version) (top : Spot) (bytes : List ℕ) (line : SymbolLine) : Type 0 where
  pub done : List ℕ
  pub read : AreRead need version top done (walked_in line) line.trailing
  pub begun : HasOpen version line.owing done bytes line.reasons

-- what is known of the bytes: where one was wrong, no symbols of this version begin so
abbrev pub LineIsBy : (List ℕ → ℕ) → Version → Spot → List ℕ → SymbolLine → Bool → Type 0
LineIsBy need version top bytes line true = (more : List ℕ) → AreSymbols version (bytes ++ more) → ⊥
LineIsBy need version top bytes line false = IsRead need version top bytes line

abbrev pub LineIs : (List ℕ → ℕ) → Version → Spot → List ℕ → SymbolLine → Type 0
LineIs need version top bytes line = LineIsBy need version top bytes line line.unknown

-- reasons with this number came, which do or do not show it: where a tree is owed they are it, and else they follow behind the tree
abbrev pub TookReasons : (List ℕ → ℕ) → ℕ → Bool → List Spot → SymbolLine → SymbolLine → Type 0
TookReasons need bound shown [] old new = (walked_in new ≡ walked_in old) × (new.trailing ≡ true)
TookReasons need bound shown (spot ∷ owed) old new = (walked_in new ≡ walked_by need bound shown spot owed (walked_in old)) × (new.trailing ≡ old.trailing)
