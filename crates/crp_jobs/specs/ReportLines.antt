-- What is said of a line of a report, by its number. Lines end with LF.
use Rattle.std.specs.Prelude.{◌≡◌, ℕ, ◌-◌, Bool, ◌||◌, ◌==◌, List, [], ◌∷◌, ◌++◌, length, slice_get, slice_index_or, Option, Some, None, option_map, if◌then◌else◌, codes}
use Rattle.std.specs.Fmt.{decimal}
use Rattle.csv.specs.Reading.{strip_bom}
use Rattle.crp_said.specs.Spelled.{line_behind}
use Rattle.crp_follow.specs.Lines.{pieces_of, without_cr}
use Rattle.crp_jobs.specs.Instead.{words_for_report, IsKindLine}
use Rattle.crp_jobs.specs.Placed.{shown, IsOfFront}

-- the line with this number, from 1; none where the text has fewer
abbrev pub line_numbered : List ℕ → ℕ → Option (List ℕ)
line_numbered text n = if n == 0 then None else slice_get (pieces_of text) (n - 1)

-- a blank or a tab
abbrev pub is_blank : ℕ → Bool
is_blank b = (b == 32) || (b == 9)

-- how the words on a line go on before its bytes
abbrev pub before_bytes : List ℕ → List ℕ
before_bytes line = if is_blank (slice_index_or line (length line - 1) 0) then codes " ends with a blank: " else codes ": "

-- what is said of a line with this number
abbrev pub line_text : ℕ → List ℕ → List ℕ
line_text n [] = codes "line " ++ (decimal n ++ codes " is empty")
line_text n (b ∷ bytes) = codes "line " ++ (decimal n ++ (before_bytes (b ∷ bytes) ++ b ∷ bytes))

-- what is said where the text ends before it
abbrev pub text_end : List ℕ → List ℕ
text_end text = codes "the file ends at line " ++ decimal (line_behind text)

-- what is said of the line with this number, where it is this one, if there is one
abbrev pub numbered_text : ℕ → List ℕ → Option (List ℕ) → List ℕ
numbered_text n text None = text_end text
numbered_text n text (Some line) = line_text n line

-- the line on the line with this number where a report is followed, which may begin with a byte order mark, and end its lines with CR LF
abbrev pub IsFollowedLine : Option (List ℕ) → ℕ → List ℕ → Type 0
IsFollowedLine given n line =
    IsOfFront given (λ text. line ≡ shown (numbered_text n (strip_bom text) (option_map without_cr (line_numbered (strip_bom text) n))))

-- the same where one is audited, byte for byte
abbrev pub IsAuditedLine : Option (List ℕ) → ℕ → List ℕ → Type 0
IsAuditedLine given n line = IsOfFront given (λ text. line ≡ shown (numbered_text n text (line_numbered text n)))

-- the same, and these words at its end
abbrev pub IsEndedLine : Option (List ℕ) → ℕ → List ℕ → List ℕ → Type 0
IsEndedLine given n words line = IsOfFront given (λ text. line ≡ shown (numbered_text n text (line_numbered text n) ++ words))

-- the line on what stands in the place of a report, by its first bytes
abbrev pub IsNoReportLine : Option (List ℕ) → List ℕ → Type 0
IsNoReportLine given line = IsOfFront given (λ front. IsKindLine words_for_report (strip_bom front) line)
