-- What is in force at a place of a list of segments. Segments are numbered from 1, and what is said of
-- a number looks at the segments before it.
use Prim.Native.Nat.{zero}
use Rattle.std.specs.Prelude.{ℕ, suc, ◌+◌, Bool, false, ◌&&◌, List, length, Option, Some, None, unwrap_or, if◌then◌else◌}
use Rattle.std.specs.Option.{option_map_or}
use Rattle.std.specs.Str.{bytes_eq}
use Rattle.edi_text.specs.Parts.{SegmentParts, no_segment, segment_at, component_of}
use Rattle.crp_movins.specs.Loading.{Loading, reads}
use Rattle.crp_movins.specs.declared.kind.Kind.{Kind}
use Rattle.crp_movins.specs.Kinds.{kind_of, is_message_header, bounds_message, is_handling, settles_code, is_slot_group, ends_group, is_equipment}

-- the segment with this number; one without tag and elements where there is none
abbrev pub segment_numbered : List SegmentParts → ℕ → SegmentParts
segment_numbered segments i = unwrap_or (segment_at segments i) no_segment

-- what the segment with this number is
unfoldable pub kind_at : List SegmentParts → ℕ → Kind
kind_at segments i = kind_of (segment_numbered segments i)

-- the tag of the segment with this number
unfoldable pub tag_at : List SegmentParts → ℕ → List ℕ
tag_at segments i = (segment_numbered segments i).tag

-- the component of the element of the segment with this number
unfoldable pub text_at : List SegmentParts → ℕ → ℕ → ℕ → List ℕ
text_at segments i element component = component_of (segment_numbered segments i) element component

-- how many elements the segment with this number has
unfoldable pub elements_at : List SegmentParts → ℕ → ℕ
elements_at segments i = length (segment_numbered segments i).elements

-- the number of the last segment before this one that is of such a kind
abbrev pub last_before : (Kind → Bool) → List SegmentParts → ℕ → Option ℕ
last_before test segments zero = None
last_before test segments (suc i) = if test (kind_at segments i) then Some i else last_before test segments i

-- how many segments before this one are of such a kind
abbrev pub count_before : (Kind → Bool) → List SegmentParts → ℕ → ℕ
count_before test segments zero = 0
count_before test segments (suc i) = if test (kind_at segments i) then count_before test segments i + 1 else count_before test segments i

-- there is such a segment, and the test holds of its number
abbrev pub holds_at : (ℕ → Bool) → Option ℕ → Bool
holds_at test place = option_map_or test place false

-- the number of such a segment, if the test holds of it
abbrev pub where_holds : (ℕ → Bool) → Option ℕ → Option ℕ
where_holds test None = None
where_holds test (Some i) = if test i then Some i else None

-- the number of the UNH whose message is open: the last of UNH and UNT, if that is a UNH
abbrev pub open_message : List SegmentParts → ℕ → Option ℕ
open_message segments i = where_holds (λ j. is_message_header (kind_at segments j)) (last_before bounds_message segments i)

-- the message of the last UNH before the segment is read
abbrev pub is_read : List SegmentParts → Loading → ℕ → Bool
is_read segments loading i = holds_at (λ j. reads loading.messages (text_at segments j 1 1)) (last_before is_message_header segments i)

-- the loading code is in force: the last of UNH and HAN is a HAN with this code, in a message that is read
abbrev pub is_loading : List SegmentParts → Loading → ℕ → Bool
is_loading segments loading i = holds_at (λ j. is_handling (kind_at segments j) && (bytes_eq (text_at segments j 1 1) loading.code && is_read segments loading j)) (last_before settles_code segments i)

-- the segment opens a loading slot group: a LOC 147 under the loading code
abbrev pub opens_loading_group : List SegmentParts → Loading → ℕ → Bool
opens_loading_group segments loading i = is_slot_group (kind_at segments i) && is_loading segments loading i

-- the number of the LOC 147 whose loading slot group is open: the last of UNH, HAN and LOC 147, if that
-- is a LOC 147 under the loading code
abbrev pub loading_group : List SegmentParts → Loading → ℕ → Option ℕ
loading_group segments loading i = where_holds (opens_loading_group segments loading) (last_before ends_group segments i)

-- the number of the LOC 147 to whose slot the segment orders a container
abbrev pub ordered_group : List SegmentParts → Loading → ℕ → Option ℕ
ordered_group segments loading i = if is_equipment (kind_at segments i) then loading_group segments loading i else None
