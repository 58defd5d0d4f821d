-- The lines of a report. A text editor may begin it with a byte order mark, end its lines with CR LF, and leave lines empty; lines count from 1.
use Rattle.std.specs.Prelude.{◌≡◌, ◌≢◌, ◌⊎◌, ℕ, suc, ◌-◌, ◌==◌, ◌&&◌, List, [], ◌∷◌, ◌++◌, length, take, slice_index, if◌then◌else◌}
use Rattle.std.specs.List.{AllByRecursion}
use Rattle.crp_said.specs.Spelled.{ended, line_behind}

-- a line that is not empty: its number, and its bytes without the end of the line
pub record Line : Type 0 where
  pub number : ℕ
  pub body : List ℕ

-- the bytes behind a byte order mark, where there is one
abbrev pub after_mark : List ℕ → List ℕ
after_mark (a ∷ b ∷ c ∷ bytes) = if (a == 239) && ((b == 187) && (c == 191)) then bytes else a ∷ b ∷ c ∷ bytes
after_mark bytes = bytes

-- a byte more at the beginning of the first piece
abbrev pub begun_with : ℕ → List (List ℕ) → List (List ℕ)
begun_with b [] = (b ∷ []) ∷ []
begun_with b (piece ∷ pieces) = (b ∷ piece) ∷ pieces

-- the pieces between the LF of a text; behind the last LF there is one where there are bytes
abbrev pub pieces_of : List ℕ → List (List ℕ)
pieces_of [] = []
pieces_of (b ∷ bytes) = if b == 10 then [] ∷ pieces_of bytes else begun_with b (pieces_of bytes)

-- a piece without a CR at its end
abbrev pub without_cr : List ℕ → List ℕ
without_cr piece = if slice_index piece (length piece - 1) == 13 then take (length piece - 1) piece else piece

-- the line of this number, unless it is empty
abbrev pub line_unless_empty : ℕ → List ℕ → List Line
line_unless_empty number [] = []
line_unless_empty number (b ∷ body) = record { number = number; body = b ∷ body } ∷ []

-- the lines that are not empty, where the first piece has this number
abbrev pub numbered : ℕ → List (List ℕ) → List Line
numbered number [] = []
numbered number (piece ∷ pieces) = line_unless_empty number (without_cr piece) ++ numbered (suc number) pieces

-- the lines of a text that are not empty
abbrev pub lines_in : List ℕ → List Line
lines_in text = numbered 1 (pieces_of (after_mark text))

-- the number of the line that would stand behind the last one
abbrev pub line_behind_all : List ℕ → ℕ
line_behind_all text = suc (length (pieces_of (after_mark text)))

-- ---- where a line stands

-- a line begins behind these bytes: there are none, or they end with LF
abbrev pub BeginsBehind : List ℕ → Type 0
BeginsBehind front = (front ≡ []) ⊎ ((before : List ℕ) × (front ≡ ended before))

-- a line ends before these bytes: there are none, or they begin with LF
abbrev pub EndsBefore : List ℕ → Type 0
EndsBefore rest = (rest ≡ []) ⊎ ((more : List ℕ) × (rest ≡ 10 ∷ more))

-- nothing, or a CR
abbrev pub IsCrOrNone : List ℕ → Type 0
IsCrOrNone cr = (cr ≡ []) ⊎ (cr ≡ 13 ∷ [])

-- the line stands there, with a CR behind it or without one, and its number is one more than the LF before it
pub record StandsIn (bytes : List ℕ) (line : Line) : Type 0 where
  pub front : List ℕ
  pub cr : List ℕ
  pub rest : List ℕ
  pub bytes_are : bytes ≡ front ++ (line.body ++ (cr ++ rest))
  pub begins : BeginsBehind front
  pub one_line : AllByRecursion (λ b. b ≢ 10) line.body
  pub some : line.body ≢ []
  pub cr_is : IsCrOrNone cr
  pub ends : EndsBefore rest
  pub number_is : line.number ≡ line_behind front
