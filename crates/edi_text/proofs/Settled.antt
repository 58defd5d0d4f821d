-- Each text spells a list of segments, or has a first fault.
use Prim.Native.Nat.{zero}
use Rattle.std.proofs.Common.{◌≡◌, ◌≢◌, ℕ, suc, ◌+◌, ◌-◌, ◌≤◌, ◌<◌, ◌⊎◌, List, [], ◌∷◌, ◌++◌, length, get_or, drop, Result, Ok, Err, refl, sym, ap, subst, inl, inr, arith, length-append}
use Rattle.std.specs.List.{AllByRecursion}
use Rattle.std.proofs.lemmas.Bool.{cases_lt, cases_eq}
use Rattle.edi_text.specs.declared.advice.Advice.{Advice}
use Rattle.edi_text.specs.declared.fault.EdiFault.{EdiFault}
use Rattle.edi_text.specs.declared.fault.EdiFault.TheVariants.{NoSegment, Advice as AdviceFault, Unfinished, Tag, TooLong}
use Rattle.edi_text.specs.declared.mark.Mark.{Mark}
use Rattle.edi_text.specs.declared.mark.Mark.TheVariants.{Data, ComponentEnd, ElementEnd, SegmentEnd}
use Rattle.edi_text.specs.declared.mark.ServiceCharacters.{ServiceCharacters}
use Rattle.std.specs.Char.{IsAsciiUppercase}
use Rattle.edi_text.specs.Parts.{SegmentParts, IsTag, HasTag, segment_of}
use Rattle.edi_text.specs.Spelling.{max_text, standard, signs_of, IsSymbol, IsPrintable, HasNoSpace, AreDistinct, IsAcceptedAdvice, BeginsWithAdvice, Spells}
use Rattle.edi_text.specs.FirstFault.{IsInside, BreaksOff, IsFirstFault}
use Rattle.edi_text.specs.Stored.{Contents}
use Rattle.edi_text.specs.Reading.{first_mark, InSegment, ReadsSegment, after_mark, after_line_ends, InBody, BreaksBody, HasOpening}
use Rattle.edi_text.proofs.MarkSteps.{first_mark-begins}
use Rattle.edi_text.proofs.SegmentSteps.{InSegment-start, InSegment-step, InSegment-end, InSegment-broken}
use Rattle.edi_text.proofs.OpeningSteps.{advice_in, opens_without, opens_with, refuses}
use Rattle.edi_text.proofs.BodySteps.{spelled-long, InBody-start, InBody-step, InBody-broken, InBody-tagless, ReadsSegment-shorter, body_fault-first, advice_fault-first, body-spells, empty-first}

-- a fact holds or fails
abbrev Settles : Type 0 → Type 0
Settles P = P ⊎ (P → ⊥)

both : {P Q : Type 0} → Settles P → Settles Q → Settles (P × Q)
both (inl p) (inl q) = inl (p, q)
both (inl p) (inr q) = inr (λ h. q h.1)
both (inr p) q = inr (λ h. p h.0)

one_of : {P Q : Type 0} → Settles P → Settles Q → Settles (P ⊎ Q)
one_of (inl p) q = inl (inl p)
one_of (inr p) (inl q) = inl (inr q)
one_of {P} {Q} (inr p) (inr q) = inr neither
  where
    neither : (P ⊎ Q) → ⊥
    neither (inl h) = p h
    neither (inr h) = q h

fails : {P : Type 0} → Settles P → Settles (P → ⊥)
fails (inl p) = inr (λ h. h p)
fails (inr p) = inl p

settles-lt : (a b : ℕ) → Settles (a < b)
settles-lt a b = elim (cases_lt a b) [ inl h ↦ inl h | inr h ↦ inr (λ k. omega arith) ]

settles-le : (a b : ℕ) → Settles (a ≤ b)
settles-le a b = elim (cases_lt b a) [ inl h ↦ inr (λ k. omega arith) | inr h ↦ inl h ]

settles-eq : (a b : ℕ) → Settles (a ≡ b)
settles-eq a b = cases_eq a b

settles-uppercase : (b : ℕ) → Settles (IsAsciiUppercase b)
settles-uppercase b = both (settles-le 65 b) (settles-le b 90)

settles-tag : (bytes : List ℕ) → Settles (IsTag bytes)
settles-tag (a ∷ b ∷ c ∷ []) =
    elim (both (settles-uppercase a) (both (settles-uppercase b) (settles-uppercase c))) [
      | inl h ↦ inl (h.0, h.1.0, h.1.1)
      | inr h ↦ inr (λ k. h (k.0, (k.1, k.2)))
    ]
settles-tag [] = inr (λ h. h)
settles-tag (a ∷ []) = inr (λ h. h)
settles-tag (a ∷ b ∷ []) = inr (λ h. h)
settles-tag (a ∷ b ∷ c ∷ d ∷ rest) = inr (λ h. h)

settles-has_tag : (elements : List (List (List ℕ))) → Settles (HasTag elements)
settles-has_tag [] = inr (λ h. h)
settles-has_tag ([] ∷ elements) = inr (λ h. h)
settles-has_tag ((tag ∷ []) ∷ elements) = settles-tag tag
settles-has_tag ((tag ∷ component ∷ components) ∷ elements) = inr (λ h. h)

settles-symbol : (b : ℕ) → Settles (IsSymbol b)
settles-symbol b =
    let digits = one_of (settles-lt b 48) (settles-lt 57 b) in
    let upper = one_of (settles-lt b 65) (settles-lt 90 b) in
    let lower = one_of (settles-lt b 97) (settles-lt 122 b) in
    elim (both digits (both upper lower)) [
      | inl h ↦ inl (h.0, h.1.0, h.1.1)
      | inr h ↦ inr (λ k. h (k.0, (k.1, k.2)))
    ]

settles-symbols : (bytes : List ℕ) → Settles (AllByRecursion IsSymbol bytes)
settles-symbols [] = inl tt
settles-symbols (b ∷ bytes) = both (settles-symbol b) (settles-symbols bytes)

settles-printable : (advice : Advice) → Settles (IsPrintable advice)
settles-printable a =
    elim (both (both (settles-le 32 a.component_separator) (both (settles-le 32 a.element_separator) (settles-le 32 a.decimal_mark))) (both (settles-le 32 a.release) (both (settles-le 32 a.reserved) (settles-le 32 a.terminator)))) [
      | inl h ↦ inl (record { component_separator = h.0.0; element_separator = h.0.1.0; decimal_mark = h.0.1.1; release = h.1.0; reserved = h.1.1.0; terminator = h.1.1.1 })
      | inr h ↦ inr (λ k. h ((k.component_separator, (k.element_separator, k.decimal_mark)), (k.release, (k.reserved, k.terminator))))
    ]

settles-no_space : (advice : Advice) → Settles (HasNoSpace advice)
settles-no_space a =
    elim (both (fails (settles-eq a.component_separator 32)) (both (fails (settles-eq a.element_separator 32)) (fails (settles-eq a.terminator 32)))) [
      | inl h ↦ inl (record { component_separator = h.0; element_separator = h.1.0; terminator = h.1.1 })
      | inr h ↦ inr (λ k. h (k.component_separator, (k.element_separator, k.terminator)))
    ]

settles-distinct : (advice : Advice) → Settles (AreDistinct advice)
settles-distinct a =
    let component = both (fails (settles-eq a.component_separator a.element_separator)) (both (fails (settles-eq a.component_separator a.terminator)) (fails (settles-eq a.component_separator a.release))) in
    let other = both (fails (settles-eq a.element_separator a.terminator)) (both (fails (settles-eq a.element_separator a.release)) (fails (settles-eq a.terminator a.release))) in
    elim (both component other) [
      | inl h ↦ inl (record { component_element = h.0.0; component_terminator = h.0.1.0; component_release = h.0.1.1; element_terminator = h.1.0; element_release = h.1.1.0; terminator_release = h.1.1.1 })
      | inr h ↦ inr (λ k. h ((k.component_element, (k.component_terminator, k.component_release)), (k.element_terminator, (k.element_release, k.terminator_release))))
    ]

settles-accepted : (advice : Advice) → Settles (IsAcceptedAdvice advice)
settles-accepted a =
    elim (both (both (settles-printable a) (settles-no_space a)) (both (settles-distinct a) (settles-symbols (a.component_separator ∷ a.element_separator ∷ a.release ∷ a.terminator ∷ [])))) [
      | inl h ↦ inl (record { printable = h.0.0; no_space = h.0.1; distinct = h.1.0; symbols = h.1.1 })
      | inr h ↦ inr (λ k. h ((k.printable, k.no_space), (k.distinct, k.symbols)))
    ]

begins-from : (a b c : ℕ) (rest : List ℕ) → Settles ((a ≡ 85) × ((b ≡ 78) × (c ≡ 65))) → Settles (BeginsWithAdvice (a ∷ b ∷ c ∷ rest))
begins-from a b c rest (inl h) = inl (rest, (let one = h.0 in let two = h.1.0 in let three = h.1.1 in cc))
begins-from a b c rest (inr h) = inr (λ k. let e = k.1 in h ((cc), ((cc), (cc))))

settles-begins : (text : List ℕ) → Settles (BeginsWithAdvice text)
settles-begins [] = inr (λ h. let e = h.1 in absurd (cc))
settles-begins (a ∷ []) = inr (λ h. let e = h.1 in absurd (cc))
settles-begins (a ∷ b ∷ []) = inr (λ h. let e = h.1 in absurd (cc))
settles-begins (a ∷ b ∷ c ∷ rest) = begins-from a b c rest (both (settles-eq a 85) (both (settles-eq b 78) (settles-eq c 65)))

-- a segment is read, or breaks off
abbrev SegmentSettled : ServiceCharacters → Contents → ℕ → List ℕ → Type 0
SegmentSettled signs old end text = ((new : Contents) × (after : List ℕ) × ReadsSegment signs old new text after) ⊎ ((fault : EdiFault) × BreaksOff signs (end - length text) text fault)

-- what a mark that does not end the segment leads to
abbrev GoesOn : ServiceCharacters → Contents → ℕ → List ℕ → List ℕ → Type 0
GoesOn signs old end text rest = (m : Mark) (after : List ℕ) → first_mark signs (end - length rest) rest ≡ Ok (m, after) → IsInside m → SegmentSettled signs old end text

mark-settled : (signs : ServiceCharacters) (old now : Contents) (end : ℕ) (text rest after : List ℕ) → InSegment signs old now text rest → GoesOn signs old end text rest → (m : Mark) → first_mark signs (end - length rest) rest ≡ Ok (m, after) → SegmentSettled signs old end text
mark-settled signs old now end text rest after state further SegmentEnd e = inl (after_mark SegmentEnd now, after, InSegment-end signs old now (end - length rest) text rest after SegmentEnd state e refl)
mark-settled signs old now end text rest after state further (Data b) e = further (Data b) after e (λ h. absurd (cc))
mark-settled signs old now end text rest after state further ComponentEnd e = further ComponentEnd after e (λ h. absurd (cc))
mark-settled signs old now end text rest after state further ElementEnd e = further ElementEnd after e (λ h. absurd (cc))

step-settled : (signs : ServiceCharacters) (old now : Contents) (end : ℕ) (text rest : List ℕ) → length text ≤ end → InSegment signs old now text rest → GoesOn signs old end text rest → (r : Result (Mark × List ℕ) EdiFault) → first_mark signs (end - length rest) rest ≡ r → SegmentSettled signs old end text
step-settled signs old now end text rest within state further (Ok found) e = mark-settled signs old now end text rest found.1 state further found.0 e
step-settled signs old now end text rest within state further (Err fault) e = inr (fault, InSegment-broken signs old now end text rest fault within state e)

mark-shorter : (signs : ServiceCharacters) (at : ℕ) (rest after : List ℕ) (m : Mark) → first_mark signs at rest ≡ Ok (m, after) → length after < length rest
mark-shorter signs at rest after m e =
    let next = first_mark-begins signs at rest after m e in
    omega (arith, spelled-long signs m next.own next.spelled, ap (λ (x : List ℕ). length x) next.whole, length-append next.own after)

segment-settled : (n : ℕ) (signs : ServiceCharacters) (old now : Contents) (end : ℕ) (text rest : List ℕ) → length rest ≤ n → length text ≤ end → InSegment signs old now text rest → SegmentSettled signs old end text
segment-settled zero signs old now end text rest short within state =
    step-settled signs old now end text rest within state (λ m after e inside. absurd (omega (arith, mark-shorter signs (end - length rest) rest after m e))) (first_mark signs (end - length rest) rest) refl
segment-settled (suc n) signs old now end text rest short within state =
    step-settled signs old now end text rest within state (λ m after e inside.
    segment-settled n signs old (after_mark m now) end text after (omega (arith, mark-shorter signs (end - length rest) rest after m e)) within (InSegment-step signs old now (end - length rest) text rest after m state e inside)) (first_mark signs (end - length rest) rest) refl

-- the segments are read to the end, or break off
abbrev BodySettled : ServiceCharacters → ℕ → List ℕ → Type 0
BodySettled signs end text = ((new : Contents) × InBody signs new text []) ⊎ ((fault : EdiFault) × BreaksBody signs (end - length text) text fault)

body-settled : (n : ℕ) (signs : ServiceCharacters) (now : Contents) (end : ℕ) (text rest : List ℕ) → length rest ≤ n → length text ≤ end → InBody signs now text rest → BodySettled signs end text
body-settled n signs now end text [] short within state = inl (now, state)
body-settled zero signs now end text (b ∷ bs) short within state = absurd (omega arith)
body-settled (suc n) signs now end text (b ∷ bs) short within state =
    let rest : List ℕ = b ∷ bs in
    let inside : length rest ≤ end = omega (arith, ap (λ (x : List ℕ). length x) state.whole, length-append state.body rest) in
    elim (segment-settled (length rest) signs now now end rest rest (omega arith) inside (InSegment-start signs now rest state.between)) [
      | inl read ↦ elim (settles-has_tag (get_or read.0.segments (length read.0.segments - 1) [])) [
        | inl tag ↦ body-settled n signs read.0 end text (after_line_ends read.1) (omega (arith, ReadsSegment-shorter signs now read.0 rest read.1 read.2)) within (InBody-step signs now read.0 text rest read.1 state read.2 tag)
        | inr tagless ↦ inr (Tag (end - length rest), InBody-tagless signs now read.0 end text rest read.1 within state read.2 tagless)
      ]
      | inr broken ↦ inr (broken.0, InBody-broken signs now end text rest broken.0 within (λ e. absurd (cc)) state broken.1)
    ]

-- the text spells a list, or has a first fault
abbrev pub IsSettled : List ℕ → Type 0
IsSettled text = ((segments : List SegmentParts) × Spells text segments) ⊎ ((fault : EdiFault) × IsFirstFault text fault)

abbrev nothing : Contents
nothing = record { segments = []; elements = []; components = []; bytes = [] }

opened-settled : (text rest : List ℕ) (signs : ServiceCharacters) → length text ≤ max_text → HasOpening text signs rest → IsSettled text
opened-settled text rest signs within head =
    let inside : length rest ≤ length text = omega (arith, ap (λ (x : List ℕ). length x) head.whole, length-append head.opening rest) in
    elim (body-settled (length rest) signs nothing (length text) rest rest (omega arith) inside (InBody-start signs rest nothing refl)) [
      | inl read ↦ elim (settles-eq (length read.0.segments) 0) [
        | inl none ↦ inr (NoSegment (length text), empty-first text rest signs read.0 within head read.1 none)
        | inr some ↦ inl (Rattle.std.proofs.Common.map segment_of read.0.segments, body-spells text rest signs read.0 within head read.1 some)
      ]
      | inr broken ↦ inr (broken.0, body_fault-first text rest signs broken.0 within head broken.1)
    ]

advice-settled : (text : List ℕ) → length text ≤ max_text → BeginsWithAdvice text → IsSettled text
advice-settled text within begins =
    elim (cases_lt (length text) 9) [
      | inl short ↦ inr (Unfinished (length text), advice_fault-first text (Unfinished (length text)) within (begins, short, refl))
      | inr long ↦ elim (settles-accepted (advice_in text)) [
        | inl accepted ↦ opened-settled text (after_line_ends (drop 9 text)) (signs_of (advice_in text)) within (opens_with text begins long accepted)
        | inr refused ↦ inr (AdviceFault 0, advice_fault-first text (AdviceFault 0) within (refuses text begins long refused, refl))
      ]
    ]

-- each text spells a list of segments, or has a first fault
pub settled : (text : List ℕ) → IsSettled text
settled text =
    elim (cases_lt max_text (length text)) [
      | inl long ↦ inr (TooLong max_text, (long, refl))
      | inr within ↦ elim (settles-begins text) [
        | inl begins ↦ advice-settled text within begins
        | inr plain ↦ opened-settled text text standard within (opens_without text plain)
      ]
    ]
