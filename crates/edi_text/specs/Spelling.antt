-- Which texts spell which lists of segments (ISO 9735, without functional groups).
use Rattle.std.specs.Prelude.{◌≡◌, ◌≢◌, ℕ, ◌≤◌, ◌<◌, ◌⊎◌, List, [], ◌∷◌, ◌++◌, Some, None, length, if◌then◌else◌, ◌==◌}
use Rattle.std.specs.List.{AllByRecursion}
use Rattle.edi_text.specs.declared.advice.Advice.{Advice}
use Rattle.edi_text.specs.declared.mark.ServiceCharacters.{ServiceCharacters}
use Rattle.edi_text.specs.Marks.{segment_marks, SplitsInto, SpellsMarks}
use Rattle.edi_text.specs.Parts.{SegmentParts, IsTag, IsNonEmpty, all_elements}

-- no longer text is read
abbrev pub max_text : ℕ
max_text = 8388608

-- without service string advice
abbrev pub standard : ServiceCharacters
standard = record { component_separator = 58; element_separator = 43; release = Some 63; terminator = 39 }

-- neither a letter nor a digit of ASCII
abbrev pub IsSymbol : ℕ → Type 0
IsSymbol b = ((b < 48) ⊎ (57 < b)) × ((b < 65) ⊎ (90 < b)) × ((b < 97) ⊎ (122 < b))

-- all six characters are from 0x20 on
pub record IsPrintable (advice : Advice) : Type 0 where
  pub component_separator : 32 ≤ advice.component_separator
  pub element_separator : 32 ≤ advice.element_separator
  pub decimal_mark : 32 ≤ advice.decimal_mark
  pub release : 32 ≤ advice.release
  pub reserved : 32 ≤ advice.reserved
  pub terminator : 32 ≤ advice.terminator

-- no space stands for a separator or the terminator
pub record HasNoSpace (advice : Advice) : Type 0 where
  pub component_separator : advice.component_separator ≢ 32
  pub element_separator : advice.element_separator ≢ 32
  pub terminator : advice.terminator ≢ 32

-- no two of the service characters are equal
pub record AreDistinct (advice : Advice) : Type 0 where
  pub component_element : advice.component_separator ≢ advice.element_separator
  pub component_terminator : advice.component_separator ≢ advice.terminator
  pub component_release : advice.component_separator ≢ advice.release
  pub element_terminator : advice.element_separator ≢ advice.terminator
  pub element_release : advice.element_separator ≢ advice.release
  pub terminator_release : advice.terminator ≢ advice.release

-- no service character is a letter or a digit
abbrev pub AreNotAlphanumeric : Advice → Type 0
AreNotAlphanumeric advice = AllByRecursion IsSymbol (advice.component_separator ∷ advice.element_separator ∷ advice.release ∷ advice.terminator ∷ [])

-- The service string advice names characters that can be used. A space in the release character's
-- place says that none is used. It is no letter and no digit, and by no_space it differs from the others.
pub record IsAcceptedAdvice (advice : Advice) : Type 0 where
  pub printable : IsPrintable advice
  pub no_space : HasNoSpace advice
  pub distinct : AreDistinct advice
  pub symbols : AreNotAlphanumeric advice

-- the service characters that the advice names; a space stands for no release character
abbrev pub signs_of : Advice → ServiceCharacters
signs_of advice = record {
  component_separator = advice.component_separator;
  element_separator = advice.element_separator;
  release = if advice.release == 32 then None else Some advice.release;
  terminator = advice.terminator;
}

-- how service string advice is written
abbrev pub advice_text : Advice → List ℕ
advice_text advice = 85 ∷ 78 ∷ 65 ∷ advice.component_separator ∷ advice.element_separator ∷ advice.decimal_mark ∷ advice.release ∷ advice.reserved ∷ advice.terminator ∷ []

-- the text begins with "UNA"
abbrev pub BeginsWithAdvice : List ℕ → Type 0
BeginsWithAdvice text = (rest : List ℕ) × (text ≡ 85 ∷ 78 ∷ 65 ∷ rest)

-- CR or LF
abbrev pub IsLineEnd : ℕ → Type 0
IsLineEnd b = (b ≡ 13) ⊎ (b ≡ 10)

-- nothing but CR and LF
abbrev pub AreLineEnds : List ℕ → Type 0
AreLineEnds = AllByRecursion IsLineEnd

-- service string advice, and line ends after it
pub record OpensWithAdvice (signs : ServiceCharacters) (opening : List ℕ) : Type 0 where
  pub advice : Advice
  pub gap : List ℕ
  pub accepted : IsAcceptedAdvice advice
  pub line_ends : AreLineEnds gap
  pub named : signs ≡ signs_of advice
  pub whole : opening ≡ advice_text advice ++ gap

-- nothing, before a text that doesn't begin with "UNA"
pub record OpensWithout (text : List ℕ) (signs : ServiceCharacters) (opening : List ℕ) : Type 0 where
  pub no_advice : BeginsWithAdvice text → ⊥
  pub named : signs ≡ standard
  pub empty : opening ≡ []

-- what stands in the text before the first segment, and the service characters from there on
abbrev pub Opens : List ℕ → ServiceCharacters → List ℕ → Type 0
Opens text signs opening = OpensWithAdvice signs opening ⊎ OpensWithout text signs opening

-- the text of one segment, its terminator the last byte
pub record SpellsSegment (signs : ServiceCharacters) (segment : SegmentParts) (text : List ℕ) : Type 0 where
  pub tag : IsTag segment.tag
  pub elements : AllByRecursion IsNonEmpty segment.elements
  pub spelled : SpellsMarks signs (segment_marks (all_elements segment)) text

-- segments one after the other, each with line ends after it or none
abbrev pub SpellsSegments : ServiceCharacters → List SegmentParts → List ℕ → Type 0
SpellsSegments signs [] text = text ≡ []
SpellsSegments signs (segment ∷ segments) text = SplitsInto (SpellsSegment signs segment) (SplitsInto AreLineEnds (SpellsSegments signs segments)) text

-- the text is an opening and these segments, and then the rest
pub record SpellsUpTo (text : List ℕ) (signs : ServiceCharacters) (segments : List SegmentParts) (opening body rest : List ℕ) : Type 0 where
  pub whole : text ≡ opening ++ (body ++ rest)
  pub opens : Opens text signs opening
  pub spelled : SpellsSegments signs segments body

-- the text spells these segments: one or more, in no more bytes than are read
pub record Spells (text : List ℕ) (segments : List SegmentParts) : Type 0 where
  pub within : length text ≤ max_text
  pub some : segments ≢ []
  pub signs : ServiceCharacters
  pub opening : List ℕ
  pub body : List ℕ
  pub reads : SpellsUpTo text signs segments opening body []
