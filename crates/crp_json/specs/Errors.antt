-- The object of each line of what is said on the standard error.
use Rattle.std.specs.Prelude.{◌≢◌, ℕ, Bool, true, false, ◌&&◌, ◌==◌, if◌then◌else◌, List, [], ◌∷◌, ◌++◌, take, drop, Option, Some, None, codes}
use Rattle.std.specs.Char.{is_ascii_uppercase, is_ascii_digit}
use Rattle.std.specs.List.{AllByRecursion}
use Rattle.std.specs.Option.{option_or}
use Rattle.json.specs.Print.{print}
use Rattle.json.specs.Token.{Token, null}
use Rattle.crp_cert.specs.Reading.{◌>>=◌, tag_at}
use Rattle.crp_said.specs.Spelled.{ended}
use Rattle.crp_json.specs.Objects.{object, member, text_token, bytes_member}

-- ---- the code of a fault

-- a code ends where the text does, or at a blank
abbrev pub ends_code : List ℕ → Bool
ends_code [] = true
ends_code (b ∷ bytes) = b == 32

-- the text begins with a capital letter and a digit, which are a code; or with a capital letter and two digits
abbrev pub is_short_code : List ℕ → Bool
is_short_code (a ∷ b ∷ rest) = is_ascii_uppercase a && (is_ascii_digit b && ends_code rest)
is_short_code bytes = false

abbrev pub is_long_code : List ℕ → Bool
is_long_code (a ∷ b ∷ c ∷ rest) = is_ascii_uppercase a && (is_ascii_digit b && (is_ascii_digit c && ends_code rest))
is_long_code bytes = false

-- the code that a text begins with, and what is behind it
abbrev pub code_at : List ℕ → Option (List ℕ × List ℕ)
code_at text = if is_short_code text then Some (take 2 text, drop 2 text) else (if is_long_code text then Some (take 3 text, drop 3 text) else None)

-- what is behind the first colon with a blank
abbrev pub behind_colon : List ℕ → Option (List ℕ)
behind_colon [] = None
behind_colon (b ∷ bytes) = option_or (tag_at (codes ": ") (b ∷ bytes)) (behind_colon bytes)

-- the code of a fault, at the front of its text or behind that, and what is behind the code
abbrev pub coded_at : List ℕ → Option (List ℕ × List ℕ)
coded_at text = option_or (code_at text) (behind_colon text >>= code_at)

-- ---- the objects

-- where the fault is, which the text says directly behind the code, or null
abbrev pub place_member : Option (List ℕ) → List Token
place_member None = member (codes "at") (null ∷ [])
place_member (Some place) = bytes_member (codes "at") (codes "at_hex") place

-- the code and the place, or null for each
abbrev pub code_members : Option (List ℕ × List ℕ) → List Token
code_members None = member (codes "code") (null ∷ []) ++ member (codes "at") (null ∷ [])
code_members (Some x) = member (codes "code") (text_token x.0) ++ place_member (tag_at (codes " at ") x.1)

abbrev pub fault_members : List ℕ → List Token
fault_members text = bytes_member (codes "fault") (codes "fault_hex") text ++ code_members (coded_at text)

-- what is no note: that the search of a bay begins, or a fault
abbrev pub begun_members : List ℕ → Option (List ℕ) → List Token
begun_members text (Some rest) = bytes_member (codes "progress") (codes "progress_hex") text
begun_members text None = fault_members text

-- what is said behind `crp: `
abbrev pub told_members : List ℕ → Option (List ℕ) → List Token
told_members text (Some note) = bytes_member (codes "note") (codes "note_hex") note
told_members text None = begun_members text (tag_at (codes "bay ") text)

-- what a line says
abbrev pub line_members : List ℕ → Option (List ℕ) → List Token
line_members line (Some text) = told_members text (tag_at (codes "note: ") text)
line_members line None = bytes_member (codes "advice") (codes "advice_hex") line

-- the object of a line, by its bytes without its LF
abbrev pub error_object : List ℕ → List Token
error_object line = object (line_members line (tag_at (codes "crp: ") line))

-- the same as a line
unfoldable pub error_line : List ℕ → List ℕ
error_line line = ended (print (error_object line))

-- a line has no LF before its end
abbrev pub IsLine : List ℕ → Type 0
IsLine line = AllByRecursion (λ b. b ≢ 10) line
