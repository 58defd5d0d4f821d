-- Which fault of a text is the first: the length, then the service string advice, and then segment
-- by segment what stands in the way of its marks, from left to right, before its tag.
use Rattle.std.specs.Prelude.{◌≡◌, ◌≢◌, ℕ, ◌+◌, ◌≤◌, ◌<◌, ◌⊎◌, List, [], ◌∷◌, ◌++◌, Some, length}
use Rattle.std.specs.List.{AllByRecursion}
use Rattle.edi_text.specs.declared.advice.Advice.{Advice}
use Rattle.edi_text.specs.declared.fault.EdiFault.{EdiFault}
use Rattle.edi_text.specs.declared.fault.EdiFault.TheVariants.{NoSegment, Advice as AdviceFault, Unfinished, Tag, Release, Control, TooLong}
use Rattle.edi_text.specs.declared.mark.Mark.{Mark}
use Rattle.edi_text.specs.declared.mark.Mark.TheVariants.{SegmentEnd}
use Rattle.edi_text.specs.declared.mark.ServiceCharacters.{ServiceCharacters}
use Rattle.edi_text.specs.Marks.{segment_marks, SpellsMarks}
use Rattle.edi_text.specs.Parts.{SegmentParts, AreElements, HasTag}
use Rattle.edi_text.specs.Spelling.{max_text, IsAcceptedAdvice, advice_text, BeginsWithAdvice, IsLineEnd, SpellsUpTo}

-- the mark does not end its segment
abbrev pub IsInside : Mark → Type 0
IsInside mark = mark ≢ SegmentEnd

-- a byte under 0x20
abbrev pub BeginsWithControl : List ℕ → Type 0
BeginsWithControl [] = ⊥
BeginsWithControl (b ∷ bs) = b < 32

-- the release character, and nothing after it
abbrev pub IsReleaseAlone : ServiceCharacters → List ℕ → Type 0
IsReleaseAlone signs (release ∷ []) = signs.release ≡ Some release
IsReleaseAlone signs _ = ⊥

-- the release character, and after it a byte under 0x20
abbrev pub ReleasesControl : ServiceCharacters → List ℕ → Type 0
ReleasesControl signs [] = ⊥
ReleasesControl signs (release ∷ rest) = (signs.release ≡ Some release) × BeginsWithControl rest

-- the rest of a text, from this place on, begins with no mark, and why: the text ends, a release
-- character is its last byte, or a byte under 0x20 stands there, released or not
abbrev pub HasNoMark : ServiceCharacters → ℕ → List ℕ → EdiFault → Type 0
HasNoMark signs at rest (Unfinished offset) = (rest ≡ []) × (offset ≡ at)
HasNoMark signs at rest (Release offset) = IsReleaseAlone signs rest × (offset ≡ at)
HasNoMark signs at rest (Control offset) = (BeginsWithControl rest × (offset ≡ at)) ⊎ (ReleasesControl signs rest × (offset ≡ at + 1))
HasNoMark signs at rest _ = ⊥

-- after marks of one segment that don't end it, no mark stands
pub record BreaksOff (signs : ServiceCharacters) (at : ℕ) (rest : List ℕ) (fault : EdiFault) : Type 0 where
  pub marks : List Mark
  pub front : List ℕ
  pub back : List ℕ
  pub whole : rest ≡ front ++ back
  pub spelled : SpellsMarks signs marks front
  pub inside : AllByRecursion IsInside marks
  pub stop : HasNoMark signs (at + length front) back fault

-- the rest begins with a whole segment that has no tag
pub record LacksTag (signs : ServiceCharacters) (rest : List ℕ) : Type 0 where
  pub elements : List (List (List ℕ))
  pub own : List ℕ
  pub more : List ℕ
  pub whole : rest ≡ own ++ more
  pub are_elements : AreElements elements
  pub spelled : SpellsMarks signs (segment_marks elements) own
  pub no_tag : HasTag elements → ⊥

-- the rest of a text, where the next segment is to start, shows this fault after these segments
abbrev pub ShowsFault : ServiceCharacters → List SegmentParts → ℕ → List ℕ → EdiFault → Type 0
ShowsFault signs segments at rest (NoSegment offset) = (segments ≡ []) × (rest ≡ []) × (offset ≡ at)
ShowsFault signs segments at rest (Tag offset) = LacksTag signs rest × (offset ≡ at)
ShowsFault signs segments at rest fault = (rest ≢ []) × BreaksOff signs at rest fault

-- the text begins with CR or LF
abbrev pub BeginsWithLineEnd : List ℕ → Type 0
BeginsWithLineEnd [] = ⊥
BeginsWithLineEnd (b ∷ bs) = IsLineEnd b

-- Line ends before the rest are passed, but at the very front of a text, where none may stand.
abbrev pub IsPassed : List ℕ → List ℕ → Type 0
IsPassed before rest = (before ≡ []) ⊎ (BeginsWithLineEnd rest → ⊥)

-- after an opening and segments that are spelled, of which there may be none, the next shows this fault
pub record IsSegmentFault (text : List ℕ) (fault : EdiFault) : Type 0 where
  pub signs : ServiceCharacters
  pub segments : List SegmentParts
  pub opening : List ℕ
  pub body : List ℕ
  pub rest : List ℕ
  pub reads : SpellsUpTo text signs segments opening body rest
  pub passed : IsPassed (opening ++ body) rest
  pub shows : ShowsFault signs segments (length (opening ++ body)) rest fault

-- the text begins with service string advice that names characters which cannot be used
pub record BeginsWithRefused (text : List ℕ) : Type 0 where
  pub advice : Advice
  pub rest : List ℕ
  pub whole : text ≡ advice_text advice ++ rest
  pub refused : IsAcceptedAdvice advice → ⊥

-- the service string advice is refused, or cut off
abbrev pub IsAdviceFault : List ℕ → EdiFault → Type 0
IsAdviceFault text (AdviceFault offset) = BeginsWithRefused text × (offset ≡ 0)
IsAdviceFault text (Unfinished offset) = BeginsWithAdvice text × (length text < 9) × (offset ≡ length text)
IsAdviceFault text _ = ⊥

-- of all faults of the text this one is stated
abbrev pub IsFirstFault : List ℕ → EdiFault → Type 0
IsFirstFault text (TooLong offset) = (max_text < length text) × (offset ≡ max_text)
IsFirstFault text fault = (length text ≤ max_text) × (IsAdviceFault text fault ⊎ IsSegmentFault text fault)
