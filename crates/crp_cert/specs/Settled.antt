-- Texts that come bit by bit: when the bytes that came decide what a text begins with, whatever follows.
use Rattle.std.specs.Prelude.{◌≡◌, ◌≢◌, ◌⊎◌, ℕ, ◌≤◌, List, [], ◌∷◌, ◌++◌, length, codes}
use Rattle.std.specs.List.{AllByRecursion}
use Rattle.crp_plan.specs.BayNames.{YardBay, IsYardBay}
use Rattle.crp_plan.specs.Bay.{Problem, Position, IsAt}
use Rattle.crp_tree.specs.Names.{name_text}
use Rattle.crp_cert.specs.declared.version.Version.{Version}
use Rattle.crp_cert.specs.Text.{title_line, bay_line}

-- bytes without the stop, then the stop, and no more than so many in all
pub record StopsWithin (stop most : ℕ) (text : List ℕ) : Type 0 where
  pub body : List ℕ
  pub before : AllByRecursion (λ b. b ≢ stop) body
  pub is : text ≡ body ++ stop ∷ []
  pub short : length text ≤ most

-- the stop came
pub record HasStop (stop : ℕ) (bytes : List ℕ) : Type 0 where
  pub body : List ℕ
  pub rest : List ℕ
  pub before : AllByRecursion (λ b. b ≢ stop) body
  pub is : bytes ≡ body ++ stop ∷ rest

-- enough came to judge a text of at most so many bytes that ends with the stop
abbrev pub CanBeJudged : ℕ → ℕ → List ℕ → Type 0
CanBeJudged stop most bytes = HasStop stop bytes ⊎ (most ≤ length bytes)

-- no line of a head is longer: a plan line has at most 672 numbers of two digits
abbrev pub longest_line : ℕ
longest_line = 2021

-- a path of the problem with at most 8 rows
abbrev pub IsName : Problem → List ℕ → Type 0
IsName p name = (length name ≤ 8) × ((s : Position) × IsAt p name s)

-- a name as a part line has it, down to the space behind it
abbrev pub spelled_name : List ℕ → List ℕ
spelled_name name = name_text name ++ codes ": "

-- none is longer: 8 rows of two digits, the points between them, the colon and the space
abbrev pub longest_name : ℕ
longest_name = 25

-- the bytes begin with the title of some version and the line of this bay
abbrev pub BeginsWithBay : List ℕ → YardBay → Type 0
BeginsWithBay bytes name = IsYardBay name × ((version : Version) × (rest : List ℕ) × (bytes ≡ title_line version ++ (bay_line name ++ rest)))
