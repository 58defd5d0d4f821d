-- What a segment is to the reader of load orders, by its tag and its qualifier (ISO 9735, UN/EDIFACT
-- D.95B MOVINS).
use Rattle.std.specs.Prelude.{ℕ, Bool, true, false, not, ◌&&◌, List, length, ◌==◌, if◌then◌else◌, codes}
use Rattle.std.specs.Str.{bytes_eq}
use Rattle.edi_text.specs.Parts.{SegmentParts, component_of}
use Rattle.crp_movins.specs.declared.kind.Kind.{Kind}
use Rattle.crp_movins.specs.declared.kind.Kind.TheVariants.{InterchangeHeader, MessageHeader, MessageTrailer, InterchangeTrailer, FunctionalGroup, Handling, SlotGroup, Equipment, Other}

-- no bytes
abbrev pub is_empty : List ℕ → Bool
is_empty bytes = length bytes == 0

-- element 1 begins with the component CN, and the first component of element 2 is a container's name
abbrev pub names_container : SegmentParts → Bool
names_container segment = bytes_eq (component_of segment 1 1) (codes "CN") && not (is_empty (component_of segment 2 1))

-- element 1 begins with the component 147: a place on board of the ship
abbrev pub names_slot : SegmentParts → Bool
names_slot segment = bytes_eq (component_of segment 1 1) (codes "147")

-- what the segment is
unfoldable pub kind_of : SegmentParts → Kind
kind_of segment =
    if bytes_eq segment.tag (codes "EQD") then (if names_container segment then Equipment else Other)
    else (if bytes_eq segment.tag (codes "LOC") then (if names_slot segment then SlotGroup else Other)
    else (if bytes_eq segment.tag (codes "HAN") then Handling
    else (if bytes_eq segment.tag (codes "UNB") then InterchangeHeader
    else (if bytes_eq segment.tag (codes "UNH") then MessageHeader
    else (if bytes_eq segment.tag (codes "UNT") then MessageTrailer
    else (if bytes_eq segment.tag (codes "UNZ") then InterchangeTrailer
    else (if bytes_eq segment.tag (codes "UNG") then FunctionalGroup
    else (if bytes_eq segment.tag (codes "UNE") then FunctionalGroup
    else Other))))))))

-- UNB
abbrev pub is_interchange_header : Kind → Bool
is_interchange_header InterchangeHeader = true
is_interchange_header _ = false

-- UNH
abbrev pub is_message_header : Kind → Bool
is_message_header MessageHeader = true
is_message_header _ = false

-- UNH or UNT
abbrev pub bounds_message : Kind → Bool
bounds_message MessageHeader = true
bounds_message MessageTrailer = true
bounds_message _ = false

-- UNZ
abbrev pub is_interchange_trailer : Kind → Bool
is_interchange_trailer InterchangeTrailer = true
is_interchange_trailer _ = false

-- UNG or UNE
abbrev pub is_functional_group : Kind → Bool
is_functional_group FunctionalGroup = true
is_functional_group _ = false

-- UNB, UNH or UNZ, which may not stand inside a message
abbrev pub belongs_outside : Kind → Bool
belongs_outside InterchangeHeader = true
belongs_outside MessageHeader = true
belongs_outside InterchangeTrailer = true
belongs_outside _ = false

-- UNH or UNZ, which alone may stand outside of a message after the first segment
abbrev pub may_follow : Kind → Bool
may_follow MessageHeader = true
may_follow InterchangeTrailer = true
may_follow _ = false

-- HAN
abbrev pub is_handling : Kind → Bool
is_handling Handling = true
is_handling _ = false

-- UNH or HAN, which settle the handling code in force
abbrev pub settles_code : Kind → Bool
settles_code MessageHeader = true
settles_code Handling = true
settles_code _ = false

-- LOC 147
abbrev pub is_slot_group : Kind → Bool
is_slot_group SlotGroup = true
is_slot_group _ = false

-- UNH, HAN or LOC 147, which end a slot group
abbrev pub ends_group : Kind → Bool
ends_group MessageHeader = true
ends_group Handling = true
ends_group SlotGroup = true
ends_group _ = false

-- EQD CN with a container's name
abbrev pub is_equipment : Kind → Bool
is_equipment Equipment = true
is_equipment _ = false
