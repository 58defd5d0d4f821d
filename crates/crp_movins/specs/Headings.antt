-- What the messages say of their ship and of their date, by places (UN/EDIFACT D.95B MOVINS: TDT and DTM).
use Prim.Native.Nat.{zero}
use Rattle.std.specs.Prelude.{ℕ, suc, ◌+◌, Bool, ◌&&◌, ◌||◌, List, [], length, Option, None, if◌then◌else◌, codes}
use Rattle.std.specs.Bool.{then_some}
use Rattle.std.specs.Option.{option_or, option_map_or}
use Rattle.std.specs.Str.{bytes_eq}
use Rattle.edi_text.specs.Parts.{SegmentParts}
use Rattle.crp_movins.specs.Loading.{Loading}
use Rattle.crp_movins.specs.Kinds.{is_empty}
use Rattle.crp_movins.specs.Places.{tag_at, text_at, is_read}

-- the number of the first below this one that passes the test
abbrev pub first_before : (ℕ → Bool) → ℕ → Option ℕ
first_before test zero = None
first_before test (suc i) = option_or (first_before test i) (then_some (test i) i)

-- a TDT of a message that is read
abbrev pub names_ship : List SegmentParts → Loading → ℕ → Bool
names_ship segments loading i = is_read segments loading i && bytes_eq (tag_at segments i) (codes "TDT")

-- a date as CCYYMMDD, or as CCYYMMDDHHMM with the time
abbrev pub is_date_format : List ℕ → Bool
is_date_format format = bytes_eq format (codes "102") || bytes_eq format (codes "203")

-- a DTM whose element 1 is 137, the date of the message and its format
abbrev pub is_document_date : List SegmentParts → ℕ → Bool
is_document_date segments i = (bytes_eq (tag_at segments i) (codes "DTM") && bytes_eq (text_at segments i 1 1) (codes "137")) && is_date_format (text_at segments i 1 3)

-- such a DTM of a message that is read
abbrev pub names_date : List SegmentParts → Loading → ℕ → Bool
names_date segments loading i = is_read segments loading i && is_document_date segments i

-- the component of the element of such a segment; no bytes where there is none
abbrev pub text_in : List SegmentParts → Option ℕ → ℕ → ℕ → List ℕ
text_in segments place element component = option_map_or (λ i. text_at segments i element component) place []

-- the ship by its name, and where that is left out by its identification
abbrev pub ship_in : List SegmentParts → Option ℕ → List ℕ
ship_in segments place = if is_empty (text_in segments place 8 4) then text_in segments place 8 1 else text_in segments place 8 4

-- the name of a ship, the number of its voyage and the date of the message, each without bytes where it is not said
pub record Heading : Type 0 where
  pub ship : List ℕ
  pub voyage : List ℕ
  pub date : List ℕ

-- what the segments with these numbers say of ship and date
abbrev pub heading_in : List SegmentParts → Option ℕ → Option ℕ → Heading
heading_in segments ship date = record { ship = ship_in segments ship; voyage = text_in segments ship 2 1; date = text_in segments date 1 2 }

-- what the first TDT and the first DTM 137 say, of the messages that are read
abbrev pub heading_of : List SegmentParts → Loading → Heading
heading_of segments loading = heading_in segments (first_before (names_ship segments loading) (length segments + 1)) (first_before (names_date segments loading) (length segments + 1))
