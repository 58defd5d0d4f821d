-- Texts with a released terminator, and with a release character that releases nothing (ISO 9735).
use Rattle.std.specs.Prelude.{ℕ, List, [], ◌∷◌, codes}
use Rattle.edi_text.specs.Parts.{SegmentParts}

-- a segment whose data has a terminator
abbrev pub with_terminator : SegmentParts
with_terminator = record { tag = codes "FTX"; elements = (codes "A'B" ∷ []) ∷ [] }

-- how it is written
abbrev pub released : List ℕ
released = codes "FTX+A?'B'"

-- a tag, and a release character behind it
abbrev pub broken_off : List ℕ
broken_off = codes "FTX?"

-- a second segment, behind the first one and a line end
abbrev pub trailer : SegmentParts
trailer = record { tag = codes "UNT"; elements = [] }

abbrev pub two_lines : List ℕ
two_lines = codes "FTX+A?'B'\r\nUNT'"
