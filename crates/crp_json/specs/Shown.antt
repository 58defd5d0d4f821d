-- What a sink in front of another one holds: what the other one does, or what was printed, whose JSON Lines the other one got.
use Rattle.std.specs.Prelude.{◌≡◌, ◌≢◌, ℕ, List, [], ◌∷◌, ◌++◌, length, take, flat_map, Option, Some, None, Result, MatchResult}
use Rattle.std.specs.List.{AllByRecursion}
use Rattle.std.specs.Io.KnownBytes.{Appends, Keeps, WriteAppends, append_known}
use Rattle.crp_plan.specs.declared.device.Failure.{Failure}
use Rattle.crp_plan.specs.Devices.{AppendsFront}
use Rattle.crp_json.specs.declared.entry.Entry.{Entry}
use Rattle.crp_json.specs.declared.entry.Printed.{Printed}
use Rattle.crp_json.specs.Entries.{IsEntryOf, IsPiece}
use Rattle.crp_json.specs.Lines.{report_of, json_of}

-- what is printed; the first line of the JSON Lines, where these are asked for; the pieces that were written, each by its entries; what the other sink holds,
-- and how many calls have failed
pub record Shown : Type 0 where
  pub printed : Printed
  pub first : Option (List ℕ)
  pub pieces : List (List Entry)
  pub holds : Option (List ℕ)
  pub failures : ℕ

-- the entries of all pieces
abbrev pub entries_in : List (List Entry) → List Entry
entries_in pieces = flat_map (λ entries. entries) pieces

-- what it holds, where the other one held this before and holds that now: these entries, if JSON Lines are asked for
abbrev pub holds_in : Option (List ℕ) → Option (List ℕ) → List (List Entry) → Option (List ℕ) → Option (List ℕ)
holds_in held holds pieces None = holds
holds_in held holds pieces (Some first) = append_known held (report_of (entries_in pieces))

abbrev pub holds_of : Option (List ℕ) → Shown → Option (List ℕ)
holds_of held s = holds_in held s.holds s.pieces s.first

-- the first line stands before the JSON Lines of the first piece, and before no others
abbrev pub opening : List ℕ → List (List Entry) → List ℕ
opening first [] = first
opening first (entries ∷ pieces) = []

-- the JSON Lines of these pieces, with the first line
abbrev pub lines_of : List ℕ → List (List Entry) → List ℕ
lines_of first [] = []
lines_of first (entries ∷ pieces) = first ++ json_of (entries_in (entries ∷ pieces))

-- the other sink has got the JSON Lines of the entries, and nothing else, as long as no call has failed
abbrev pub GotLines : Option (List ℕ) → Shown → Type 0
GotLines held s = (before first : List ℕ) → held ≡ Some before → s.first ≡ Some first → s.failures ≡ 0 → s.holds ≡ Some (before ++ lines_of first s.pieces)

-- it has got these bytes, the JSON Lines of the pieces, and behind them a front of those of some entries more at most
abbrev pub GotMore : Printed → List ℕ → List (List Entry) → List ℕ → Option (List ℕ) → Type 0
GotMore printed first pieces before holds = (entries : List Entry) × (n : ℕ) × AllByRecursion (IsEntryOf printed) entries
    × (holds ≡ Some (before ++ (lines_of first pieces ++ take n (opening first pieces ++ json_of entries))))

-- so it has, whether a call has failed or not
abbrev pub GotFront : Option (List ℕ) → Shown → Type 0
GotFront held s = (before first : List ℕ) → held ≡ Some before → s.first ≡ Some first
    → ∥ GotMore s.printed first s.pieces before s.holds ∥₁

-- what holds of it at all times
pub record IsShown (held : Option (List ℕ)) (s : Shown) : Type 0 where
  pub each : ∥ AllByRecursion (IsPiece s.printed) s.pieces ∥₁
  pub lines : GotLines held s
  pub front : GotFront held s

-- a piece is some entries more, whose JSON Lines the other sink got, and nothing else
pub record IsOneMore (printed : Printed) (first : List ℕ) (pieces new_pieces : List (List Entry)) (holds new_holds : Option (List ℕ)) (piece : List ℕ) : Type 0 where
  pub entries : List Entry
  pub is_piece : IsPiece printed entries
  pub is : piece ≡ report_of entries
  pub added : new_pieces ≡ pieces ++ entries ∷ []
  pub lines : Appends holds new_holds (opening first pieces ++ json_of entries)

-- there is no piece more, and the other sink got a front of the JSON Lines of some entries at most
pub record IsNoMore (printed : Printed) (first : List ℕ) (pieces new_pieces : List (List Entry)) (holds new_holds : Option (List ℕ)) : Type 0 where
  pub entries : List Entry
  pub each : AllByRecursion (IsEntryOf printed) entries
  pub kept : new_pieces ≡ pieces
  pub front : AppendsFront holds new_holds (opening first pieces ++ json_of entries)

-- what an answer to a piece says, where so many calls had failed: the other sink gave it; or, where JSON Lines are asked for, the piece is some entries more, or
-- there is none more; behind a failure the other sink gets nothing
abbrev pub IsAnswer : Printed → Option (List ℕ) → ℕ → Result ℕ Failure → List (List Entry) → List (List Entry) → Option (List ℕ) → Option (List ℕ) → List ℕ → Type 0
IsAnswer printed None failed r pieces new_pieces holds new_holds piece = (new_pieces ≡ pieces) × WriteAppends holds new_holds r piece
IsAnswer printed (Some first) failed r pieces new_pieces holds new_holds piece =
    MatchResult r (λ n. (n ≡ length piece) × (failed ≡ 0) × IsOneMore printed first pieces new_pieces holds new_holds piece)
    (λ _. IsNoMore printed first pieces new_pieces holds new_holds × (failed ≢ 0 → Keeps holds new_holds))
