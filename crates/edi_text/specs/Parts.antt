-- What an interchange says, apart from how it is spelled.
use Rattle.std.specs.Prelude.{◌≢◌, ℕ, ◌-◌, ◌≤◌, List, [], ◌∷◌, Option, None, ◌||◌, if◌then◌else◌, ◌==◌, slice_get, slice_index_or}
use Rattle.std.specs.List.{AllByRecursion}
use Rattle.std.specs.Char.{IsAsciiUppercase}

-- a segment: its tag, and its elements after the tag as lists of components
pub record SegmentParts : Type 0 where
  pub tag : List ℕ
  pub elements : List (List (List ℕ))

-- the segment with this number, counted from 1, if there is one
abbrev pub segment_at : List SegmentParts → ℕ → Option SegmentParts
segment_at segments number = if number == 0 then None else slice_get segments (number - 1)

-- the component of the element, both counted from 1; empty where there is none
abbrev pub component_of : SegmentParts → ℕ → ℕ → List ℕ
component_of segment element component = if element == 0 || component == 0 then [] else slice_index_or (slice_index_or segment.elements (element - 1) []) (component - 1) []

-- three letters from A to Z
abbrev pub IsTag : List ℕ → Type 0
IsTag (a ∷ b ∷ c ∷ []) = IsAsciiUppercase a × IsAsciiUppercase b × IsAsciiUppercase c
IsTag _ = ⊥

-- there is an item
abbrev pub IsNonEmpty : {X : Type 0} → List X → Type 0
IsNonEmpty xs = xs ≢ []

-- a segment has elements, and each element has components
abbrev pub AreElements : List (List (List ℕ)) → Type 0
AreElements elements = IsNonEmpty elements × AllByRecursion IsNonEmpty elements

-- the first element is a tag: one component of three letters from A to Z
abbrev pub HasTag : List (List (List ℕ)) → Type 0
HasTag ((tag ∷ []) ∷ elements) = IsTag tag
HasTag _ = ⊥

-- the elements of a segment, the tag among them
abbrev pub all_elements : SegmentParts → List (List (List ℕ))
all_elements segment = (segment.tag ∷ []) ∷ segment.elements

-- stands for a segment where there is none
abbrev pub no_segment : SegmentParts
no_segment = record { tag = []; elements = [] }

-- the segment of these elements, of which the first is the tag
abbrev pub segment_of : List (List (List ℕ)) → SegmentParts
segment_of ((tag ∷ []) ∷ elements) = record { tag = tag; elements = elements }
segment_of _ = no_segment
