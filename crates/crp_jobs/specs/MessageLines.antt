-- What is said of a fault of a message.
use Rattle.std.specs.Prelude.{◌≡◌, ◌<◌, ◌⊎◌, ℕ, Bool, not, ◌&&◌, List, [], ◌∷◌, Option, Some, None, IfSome, MatchOption, if◌then◌else◌, codes}
use Rattle.csv.specs.Reading.{strip_bom}
use Rattle.edi_text.specs.declared.fault.EdiFault.{EdiFault}
use Rattle.edi_text.specs.declared.fault.EdiFault.TheVariants as edi
use Rattle.crp_movins.specs.declared.fault.MovinsFault.{MovinsFault}
use Rattle.crp_jobs.specs.Found.{begins}
use Rattle.crp_jobs.specs.Headers.{has}
use Rattle.crp_jobs.specs.Instead.{words_for_message, IsKindLine}
use Rattle.crp_places.specs.Lines.{line_of}
use Rattle.crp_places.specs.Segments.{IsSegmentAt, IsSegmentText, IsSpelledBy}
use Rattle.crp_jobs.specs.Firsts.{detailed_text, first_words}
use Rattle.crp_jobs.specs.Placed.{shown, again_named, end_text, line_front, offset_named, segment_named, IsOffsetLine, IsSegmentLine, IsOfFront}

-- the byte order mark of UTF-8
abbrev pub byte_order_mark : List ℕ
byte_order_mark = 239 ∷ 187 ∷ 191 ∷ []

-- it begins without service string advice, has no apostrophe, by which segments end then, and has a tilde
abbrev pub seems_ended_by_tilde : List ℕ → Bool
seems_ended_by_tilde text = begins (codes "UNB") text && (has 126 text && not (has 39 text))

-- what is said of a text whose segments cannot be told apart, where the reason is plain to see
abbrev pub sign_words : List ℕ → Option (List ℕ)
sign_words text =
    if begins byte_order_mark text then Some (codes "the file begins with a byte order mark: save it without one") else
    if seems_ended_by_tilde text then Some (codes "segments seem to end with ~: then the file must begin with UNA and say so") else None

-- the same, unless the fault is that the text is too long; behind a byte order mark each other fault is one of the first segment, since none begins so
abbrev pub words_on_signs : EdiFault → List ℕ → Option (List ℕ)
words_on_signs (edi.TooLong n) text = None
words_on_signs (edi.NoSegment n) text = sign_words text
words_on_signs (edi.Advice n) text = sign_words text
words_on_signs (edi.Unfinished n) text = sign_words text
words_on_signs (edi.Tag n) text = sign_words text
words_on_signs (edi.Release n) text = sign_words text
words_on_signs (edi.Control n) text = sign_words text
words_on_signs edi.Memory text = sign_words text

-- the line on a fault at this offset of a text: on its signs, and else on the offset
abbrev pub IsEdiLine : EdiFault → ℕ → List ℕ → List ℕ → Type 0
IsEdiLine f n text line = MatchOption (words_on_signs f text) (IsOffsetLine n text line) (λ words. line ≡ shown words)

-- the line on a message that is no interchange, in a file of which these bytes are known: on its kind by its first bytes, where that is another, and
-- else on the fault
abbrev pub IsInterchangeLine : Option (List ℕ) → EdiFault → List ℕ → Type 0
IsInterchangeLine given f line =
    IfSome (offset_named f) (λ n.
    IsOfFront given (λ text. IsEdiLine f n text line) ⊎ IsOfFront given (λ front. IsKindLine words_for_message (strip_bom front) line))

-- the line on a segment that orders a container again, by its number and that of the segment that orders it first: where both stand, and what the second
-- one is; behind the last segment the text ends
pub record IsOrderedAgainLine (n first : ℕ) (text line : List ℕ) : Type 0 where
  pub there : (offset before : ℕ) (own : List ℕ) → IsSegmentText text n offset own → IsSegmentAt text first before
      → line ≡ shown (detailed_text (codes "segment ") n (line_of text offset) (first_words (codes "segment ") first (line_of text before)) (line_front own))
  pub none : (count : ℕ) → IsSpelledBy text count → count < n → line ≡ shown (end_text text)

-- the line on a message that gives no load orders: on the segment of its fault, and of two that order one container on both
abbrev pub IsMessageLine : Option (List ℕ) → MovinsFault → List ℕ → Type 0
IsMessageLine given f line =
    MatchOption (again_named f) (IfSome (segment_named f) (λ n. IsOfFront given (λ text. IsSegmentLine n text line)))
    (λ both. IsOfFront given (λ text. IsOrderedAgainLine both.0 both.1 text line))
