-- What a sink in front of the standard error holds: what the other one does, or the lines that it was given, of which the other one got the objects.
use Rattle.std.specs.Prelude.{◌≡◌, ◌≢◌, ℕ, ◌≤◌, Bool, true, false, List, ◌++◌, length, take, flat_map, Option, Some, Result, MatchResult}
use Rattle.std.specs.List.{AllByRecursion}
use Rattle.std.specs.Io.KnownBytes.{Appends, Keeps, WriteAppends, append_known}
use Rattle.crp_plan.specs.declared.device.Failure.{Failure}
use Rattle.crp_plan.specs.Devices.{AppendsFront}
use Rattle.crp_said.specs.Spelled.{ended}
use Rattle.crp_json.specs.Errors.{error_line, IsLine}

-- whether objects are asked for; where they are, the lines that it was given, without their LF, and the line that is under way; what the other sink holds, and
-- how many calls have failed
pub record Told : Type 0 where
  pub is_json : Bool
  pub lines : List (List ℕ)
  pub line : List ℕ
  pub holds : Option (List ℕ)
  pub failures : ℕ

-- the bytes of these lines, and of the one under way
abbrev pub text_of : List (List ℕ) → List ℕ → List ℕ
text_of lines line = flat_map ended lines ++ line

-- the objects of lines, each on a line of its own
abbrev pub objects_of : List (List ℕ) → List ℕ
objects_of lines = flat_map error_line lines

-- what it holds, where the other one held this before and holds that now
abbrev pub holds_in : Option (List ℕ) → Option (List ℕ) → List (List ℕ) → List ℕ → Bool → Option (List ℕ)
holds_in held holds lines line false = holds
holds_in held holds lines line true = append_known held (text_of lines line)

abbrev pub holds_of : Option (List ℕ) → Told → Option (List ℕ)
holds_of held t = holds_in held t.holds t.lines t.line t.is_json

-- no line has an LF before its end
abbrev pub AreLines : Told → Type 0
AreLines t = ∥ AllByRecursion IsLine t.lines × IsLine t.line ∥₁

-- the other sink has got the objects of the lines that are complete, and nothing else, as long as no call has failed
abbrev pub GotObjects : Option (List ℕ) → Told → Type 0
GotObjects held t = (before : List ℕ) → held ≡ Some before → t.is_json ≡ true → t.failures ≡ 0 → t.holds ≡ Some (before ++ objects_of t.lines)

-- it has got these bytes, the objects of the lines, and behind them a front of that of one more at most
abbrev pub GotMore : List (List ℕ) → List ℕ → Option (List ℕ) → Type 0
GotMore lines before holds = (line : List ℕ) × (n : ℕ) × IsLine line × (holds ≡ Some (before ++ (objects_of lines ++ take n (error_line line))))

-- so it has, whether a call has failed or not
abbrev pub GotFront : Option (List ℕ) → Told → Type 0
GotFront held t = (before : List ℕ) → held ≡ Some before → t.is_json ≡ true
    → ∥ GotMore t.lines before t.holds ∥₁

-- what holds of it at all times
pub record IsTold (held : Option (List ℕ)) (t : Told) : Type 0 where
  pub each : AreLines t
  pub objects : GotObjects held t
  pub front : GotFront held t

-- a front of a piece is taken: some lines end in it, and the other sink got their objects, and nothing else
pub record IsTaken (lines new_lines : List (List ℕ)) (line new_line : List ℕ) (holds new_holds : Option (List ℕ)) (front : List ℕ) : Type 0 where
  pub more : List (List ℕ)
  pub added : new_lines ≡ lines ++ more
  pub text : text_of new_lines new_line ≡ text_of lines line ++ front
  pub plain : IsLine line → AllByRecursion IsLine more × IsLine new_line
  pub objects : Appends holds new_holds (objects_of more)

-- none is, and the other sink got a front of the object of one line at most
pub record IsLeft (lines new_lines : List (List ℕ)) (line new_line : List ℕ) (holds new_holds : Option (List ℕ)) : Type 0 where
  pub lines_kept : new_lines ≡ lines
  pub line_kept : new_line ≡ line
  pub next : List ℕ
  pub plain : IsLine line → IsLine next
  pub front : AppendsFront holds new_holds (error_line next)

-- what an answer to a piece says, where so many calls had failed: the other sink gave it; or, where objects are asked for, a front of the piece is taken, or
-- none is; behind a failure the other sink gets nothing
abbrev pub IsToldAnswer : Bool → ℕ → Result ℕ Failure → List (List ℕ) → List (List ℕ) → List ℕ → List ℕ → Option (List ℕ) → Option (List ℕ) → List ℕ → Type 0
IsToldAnswer false failed r lines new_lines line new_line holds new_holds piece = (new_lines ≡ lines) × (new_line ≡ line) × WriteAppends holds new_holds r piece
IsToldAnswer true failed r lines new_lines line new_line holds new_holds piece =
    MatchResult r (λ n. (n ≤ length piece) × (failed ≡ 0) × IsTaken lines new_lines line new_line holds new_holds (take n piece))
    (λ _. IsLeft lines new_lines line new_line holds new_holds × (failed ≢ 0 → Keeps holds new_holds))
