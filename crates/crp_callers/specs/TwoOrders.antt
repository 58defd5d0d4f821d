-- A load message of two orders: the container above is listed first, and that beneath it in the ship after it.
use Rattle.std.specs.Prelude.{ℕ, List, [], ◌∷◌, codes}
use Rattle.edi_text.specs.Parts.{SegmentParts}
use Rattle.crp_movins.specs.Loading.{Loading}
use Rattle.crp_movins.specs.declared.order.Order.{Order}

-- the loading code
abbrev pub code : List ℕ
code = codes "LOA"

-- the orders under it, of the message that is there, by its reference
abbrev pub loading : Loading
loading = record { code = code; messages = codes "M1" ∷ [] }

-- the orders under it, of a message with another reference
abbrev pub of_another : Loading
of_another = record { code = code; messages = codes "2" ∷ [] }

-- a segment of two elements that have one component each
abbrev pub segment : List ℕ → List ℕ → List ℕ → SegmentParts
segment tag first second = record { tag = tag; elements = (first ∷ []) ∷ (second ∷ []) ∷ [] }

-- UNB: element 5 is the control reference
abbrev pub interchange_header : SegmentParts
interchange_header = record {
  tag = codes "UNB";
  elements = (codes "UNOA" ∷ codes "1" ∷ []) ∷ (codes "YARD" ∷ []) ∷ (codes "SHIP" ∷ []) ∷ (codes "250101" ∷ codes "0800" ∷ []) ∷ (codes "I7" ∷ []) ∷ [];
}

-- UNH: element 1 is the message reference, and element 2 says what message it is
abbrev pub message_header : SegmentParts
message_header = record { tag = codes "UNH"; elements = (codes "M1" ∷ []) ∷ (codes "MOVINS" ∷ codes "D" ∷ codes "95B" ∷ codes "UN" ∷ []) ∷ [] }

-- The interchange, where segment 7 names this slot and segment 13 counts so many segments. Segment 6 orders UPPER and segment 9 LOWER; into the
-- slot of segment 7 nothing is ordered, and the container of segment 12 stands under another handling code.
abbrev pub interchange : List ℕ → List ℕ → List SegmentParts
interchange slot count =
    interchange_header
    ∷ message_header
    ∷ segment (codes "BGM") [] (codes "8")
    ∷ segment (codes "HAN") code []
    ∷ segment (codes "LOC") (codes "147") (codes "0020184")
    ∷ segment (codes "EQD") (codes "CN") (codes "UPPER")
    ∷ segment (codes "LOC") (codes "147") slot
    ∷ segment (codes "LOC") (codes "147") (codes "010182")
    ∷ segment (codes "EQD") (codes "CN") (codes "LOWER")
    ∷ segment (codes "HAN") (codes "DIS") []
    ∷ segment (codes "LOC") (codes "147") (codes "0010282")
    ∷ segment (codes "EQD") (codes "CN") (codes "OTHER")
    ∷ segment (codes "UNT") count (codes "M1")
    ∷ segment (codes "UNZ") (codes "1") (codes "I7")
    ∷ []

-- the interchange without a fault
abbrev pub two_orders : List SegmentParts
two_orders = interchange (codes "0030182") (codes "12")

-- a slot that is none, and behind it a count that is wrong
abbrev pub two_faults : List SegmentParts
two_faults = interchange (codes "BAY3") (codes "13")

-- what segment 6 orders
abbrev pub upper : Order
upper = record { container = codes "UPPER"; slot = record { bay = 2; row = 1; tier = 84 } }

-- what segment 9 orders
abbrev pub lower : Order
lower = record { container = codes "LOWER"; slot = record { bay = 1; row = 1; tier = 82 } }

-- the order in which they leave
abbrev pub lower_first : List (List ℕ)
lower_first = codes "LOWER" ∷ codes "UPPER" ∷ []
