-- The pieces of what a run writes, in the order in which they are written, and how far they are written where a write fails.
use Rattle.std.specs.Prelude.{◌≡◌, ℕ, ◌<◌, Bool, true, false, List, [], ◌∷◌, ◌++◌, length, flat_map, take, if◌then◌else◌}
use Rattle.crp_report.specs.declared.fault.Output.{Output}
use Rattle.crp_report.specs.declared.fault.Output.TheVariants as output
use Rattle.crp_report.specs.Answered.{Answered}
use Rattle.crp_report.specs.Report.{AreBayLines, certificate_of, last_line}

-- a piece: the sink that it goes to, and its bytes
pub record Piece : Type 0 where
  pub to : Output
  pub bytes : List ℕ

-- a piece that goes to this sink
abbrev pub piece : Output → List ℕ → Piece
piece sink bytes = record { to = sink; bytes = bytes }

-- the two sinks are one
abbrev pub is_same : Output → Output → Bool
is_same output.Report output.Report = true
is_same output.Certificates output.Certificates = true
is_same output.YardAfter output.YardAfter = true
is_same a b = false

-- what a sink gets of pieces: the bytes of those that go to it
abbrev pub bytes_for : Output → List Piece → List ℕ
bytes_for sink pieces = flat_map (λ p. if is_same sink p.to then p.bytes else []) pieces

-- the pieces of bays: of each bay its lines, and then its certificate
abbrev pub AreBayPieces : List Answered → List Piece → Type 0
AreBayPieces [] pieces = pieces ≡ []
AreBayPieces (bay ∷ bays) pieces = (lines : List ℕ) × (rest : List Piece) × AreBayLines bay lines × AreBayPieces bays rest
    × (pieces ≡ piece output.Report lines ∷ piece output.Certificates (certificate_of bay) ∷ rest)

-- all pieces: this first line, those of the bays, the last line, and the yard after
abbrev pub ArePieces : List ℕ → List Answered → List ℕ → List Piece → Type 0
ArePieces first answered yard_after pieces = (bays : List Piece) × AreBayPieces answered bays
    × (pieces ≡ piece output.Report first ∷ (bays ++ piece output.Report (last_line answered) ∷ piece output.YardAfter yard_after ∷ []))

-- where a write failed: the pieces before, the piece of which only so many bytes were taken, not all that it has, and the pieces behind
pub record Stop : Type 0 where
  pub before : List Piece
  pub failed : Piece
  pub taken : ℕ
  pub not_all : taken < length failed.bytes
  pub behind : List Piece

-- all pieces, and those that were written: of the one whose write failed a front that is not all of it, and none behind it
abbrev pub wanted : Stop → List Piece
wanted stop = stop.before ++ stop.failed ∷ stop.behind

abbrev pub written : Stop → List Piece
written stop = stop.before ++ piece stop.failed.to (take stop.taken stop.failed.bytes) ∷ []
