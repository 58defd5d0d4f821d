-- Files of certificates, one after the other, and what they show.
use Rattle.std.specs.Prelude.{◌≡◌, ◌≢◌, ◌⊎◌, ℕ, ◌+◌, List, [], ◌∷◌, ◌++◌, length, All, None, codes}
use Rattle.std.specs.List.{AllByRecursion, AllZip, flat_map}
use Rattle.crp_plan.specs.BayNames.{YardBay}
use Rattle.crp_checker.specs.declared.verdict.Verdict.{Verdict}
use Rattle.crp_checker.specs.declared.refused.Refused.{Refused}
use Rattle.crp_checker.specs.declared.refused.Refused.TheVariants.{Memory}
use Rattle.crp_checker.specs.Refusals.{IsRefusal}
use Rattle.crp_checker.specs.Shown.{TextShowsFor}

-- bytes without LF
abbrev pub IsWithoutEnd : List ℕ → Type 0
IsWithoutEnd bytes = All (λ b. b ≢ 10) bytes

-- a line: bytes without LF, and then LF
pub record IsLine (line : List ℕ) : Type 0 where
  pub body : List ℕ
  pub one_line : IsWithoutEnd body
  pub is : line ≡ body ++ 10 ∷ []

-- the bytes begin with `end `
abbrev pub BeginsWithEnd : List ℕ → Type 0
BeginsWithEnd bytes = (rest : List ℕ) × (bytes ≡ codes "end " ++ rest)

-- a line that does not begin so
pub record IsOtherLine (line : List ℕ) : Type 0 where
  pub is_line : IsLine line
  pub other : BeginsWithEnd line → ⊥

-- the lines, one after the other
abbrev pub joined_lines : List (List ℕ) → List ℕ
joined_lines lines = flat_map (λ line. line) lines

-- the text ends with its first line that begins with `end `
pub record IsEnded (text : List ℕ) : Type 0 where
  pub lines : List (List ℕ)
  pub last : List ℕ
  pub others : AllByRecursion IsOtherLine lines
  pub is_line : IsLine last
  pub is_end : BeginsWithEnd last
  pub is : text ≡ joined_lines lines ++ last

-- some bytes, of which no whole line begins with `end `
pub record HasNoEndLine (text : List ℕ) : Type 0 where
  pub lines : List (List ℕ)
  pub rest : List ℕ
  pub others : AllByRecursion IsOtherLine lines
  pub part_line : IsWithoutEnd rest
  pub is : text ≡ joined_lines lines ++ rest
  pub some_bytes : text ≢ []

-- the file begins with the texts of so many certificates, and this follows. A certificate ends with its first line that begins with `end `,
-- wherever that stands; bytes after the last such line are one more certificate
abbrev pub BeginsWithTexts : List ℕ → List (List ℕ) → List ℕ → Type 0
BeginsWithTexts file [] rest = file ≡ rest
BeginsWithTexts file (text ∷ texts) rest =
    (after : List ℕ) × (file ≡ text ++ after) × (IsEnded text ⊎ (HasNoEndLine text × (after ≡ []))) × BeginsWithTexts after texts rest

-- each text is that of an accepted certificate for this bay, and shows this
abbrev pub ShowEach : List (List ℕ) → List (YardBay × Verdict) → Type 0
ShowEach texts verdicts = AllZip (λ text shown. TextShowsFor text shown.0 shown.1) texts verdicts

-- what a file shows: its certificates are all accepted, and show this, in order
abbrev pub FileShows : List ℕ → List (YardBay × Verdict) → Type 0
FileShows file verdicts = (texts : List (List ℕ)) × BeginsWithTexts file texts [] × ShowEach texts verdicts

-- why a file is refused: what the certificates before show, and why the one with this number, from 1, is refused
pub record IsFileRefusal (file : List ℕ) (before : List (YardBay × Verdict)) (number : ℕ) (refused : Refused) : Type 0 where
  pub texts : List (List ℕ)
  pub text : List ℕ
  pub after : List ℕ
  pub begins : BeginsWithTexts file (texts ++ text ∷ []) after
  pub shown : ShowEach texts before
  pub number_is : number ≡ length texts + 1
  pub why : (refused ≡ Memory) ⊎ IsRefusal None text refused
