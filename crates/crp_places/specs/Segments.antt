-- Where the segments of an interchange begin.
use Prim.Native.Nat.{zero}
use Rattle.std.specs.Prelude.{◌≡◌, ◌≢◌, ℕ, suc, ◌+◌, ◌==◌, Bool, true, false, List, [], ◌∷◌, ◌++◌, length, if◌then◌else◌}
use Rattle.edi_text.specs.Parts.{SegmentParts}
use Rattle.edi_text.specs.Spelling.{SpellsSegment, SpellsUpTo}
use Rattle.edi_text.specs.FirstFault.{IsPassed}
use Rattle.edi_text.specs.Reading.{HasOpening, after_line_ends, is_release}
use Rattle.crp_places.specs.declared.segments.Signs.{Signs}

-- the text is an opening and these segments, and then the rest, under some service characters: their type is edi_text's own, and has no name here
abbrev pub SpellsAtFront : List ℕ → List SegmentParts → List ℕ → List ℕ → List ℕ → Type 0
SpellsAtFront text segments opening body rest = (signs : _) × SpellsUpTo text signs segments opening body rest

-- the segment with this number begins at the offset, from 1: the text spells the segments before it, of which it has one fewer, and something stands
-- behind them and behind the line ends there
pub record IsSegmentAt (text : List ℕ) (number offset : ℕ) : Type 0 where
  pub segments : List SegmentParts
  pub opening : List ℕ
  pub body : List ℕ
  pub rest : List ℕ
  pub reads : SpellsAtFront text segments opening body rest
  pub passed : IsPassed (opening ++ body) rest
  pub counted : length segments + 1 ≡ number
  pub some : rest ≢ []
  pub place : offset ≡ length (opening ++ body)

-- the segment with this number begins at the offset, and these are its bytes, of which the last is its terminator
pub record IsSegmentText (text : List ℕ) (number offset : ℕ) (own : List ℕ) : Type 0 where
  pub at : IsSegmentAt text number offset
  pub segment : SegmentParts
  pub more : List ℕ
  pub whole : at.rest ≡ own ++ more
  pub spelled : SpellsSegment at.reads.0 segment own

-- the whole text spells so many segments
pub record IsSpelledBy (text : List ℕ) (count : ℕ) : Type 0 where
  pub segments : List SegmentParts
  pub opening : List ℕ
  pub body : List ℕ
  pub reads : SpellsAtFront text segments opening body []
  pub counted : length segments ≡ count

-- ---- what only private clauses speak of

-- where the text has an opening before this rest, these are the release character and the terminator from there on, and these bytes are the rest
abbrev pub OpensAs : List ℕ → List ℕ → Signs → List ℕ → Type 0
OpensAs text rest signs bytes = (named : _) → HasOpening text named rest → (signs.release ≡ named.release) × (signs.terminator ≡ named.terminator) × (bytes ≡ rest)

-- what stands behind the first terminator that is not released, where the first byte is released or not
abbrev pub behind_terminator : Signs → Bool → List ℕ → List ℕ
behind_terminator signs released [] = []
behind_terminator signs true (b ∷ bytes) = behind_terminator signs false bytes
behind_terminator signs false (b ∷ bytes) =
    if is_release signs.release b then behind_terminator signs true bytes else (if b == signs.terminator then bytes else behind_terminator signs false bytes)

-- what stands behind so many segments, and behind the line ends that follow each
abbrev pub behind_segments : Signs → List ℕ → ℕ → List ℕ
behind_segments signs bytes zero = bytes
behind_segments signs bytes (suc count) = after_line_ends (behind_terminator signs false (behind_segments signs bytes count))
