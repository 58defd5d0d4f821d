-- Segment by segment, as an interchange is spelled.
use Rattle.std.proofs.Common.{◌≡◌, ◌≢◌, ◌<◌, ◌≤◌, ◌⊎◌, ◌+◌, ◌-◌, ℕ, zero, suc, Bool, true, false, cond, ltb, eqb, List, [], ◌∷◌, ◌++◌, length, drop, Some, None, Result, Ok, refl, sym, ap, subst, ◌∙◌, inl, inr, ⊎_elim, arith, append_assoc, length-append, tests, rules}
use Rattle.std.specs.List.{AllByRecursion}
use Rattle.std.proofs.lemmas.List.{append-nil}
use Rattle.std.proofs.lemmas.Bool.{cases_lt}
use Rattle.edi_text.specs.Marks.{SpellsMarks, segment_marks}
use Rattle.edi_text.specs.Parts.{SegmentParts, all_elements}
use Rattle.edi_text.specs.Spelling.{Opens, SpellsSegments, SpellsUpTo}
use Rattle.edi_text.specs.FirstFault.{BeginsWithLineEnd, IsInside, IsPassed}
use Rattle.edi_text.specs.Reading.{after_line_ends, first_mark, is_release, mark_after_release, mark_of, releases}
use Rattle.edi_text.proofs.JoinedMarks.{inside-joined}
use Rattle.edi_text.proofs.UniqueSegment.{AreUsable, first_mark-spelled, opens-usable}
use Rattle.crp_places.specs.declared.segments.Signs.{Signs}
use Rattle.crp_places.specs.Segments.{IsSegmentAt, IsSegmentText, IsSpelledBy, OpensAs, behind_segments, behind_terminator}
use Rattle.crp_places.proofs.Openings.{gap-passed}

-- these service characters are usable, and those of `signs` are among them
record AreFor (named : _) (signs : Signs) : Type 0 where
  usable : AreUsable named
  component : named.component_separator ≢ named.terminator
  element : named.element_separator ≢ named.terminator
  released : is_release named.release named.terminator ≡ false
  printable : 32 ≤ named.terminator
  release : signs.release ≡ named.release
  terminator : signs.terminator ≡ named.terminator

split : {A : Type 0} (t : Bool) (x y z : A) (P : Type 0) → cond t x y ≡ z → (t ≡ true → x ≡ z → P) → (t ≡ false → y ≡ z → P) → P
split true x y z P e f g = f refl e
split false x y z P e f g = g refl e

ok-same : {X E : Type 0} (p q : X) → (let it : Result X E = Ok p in it ≡ Ok q) → p ≡ q
ok-same p q h = cc

ok-first : {A E : Type 0} (a b : A) (x y : List ℕ) → (let it : Result (A × List ℕ) E = Ok (a, x) in it ≡ Ok (b, y)) → a ≡ b
ok-first {A = A} a b x y h = ap (λ (z : A × List ℕ). z.0) (ok-same (a, x) (b, y) h)

ok-rest : {A E : Type 0} (a b : A) (x y : List ℕ) → (let it : Result (A × List ℕ) E = Ok (a, x) in it ≡ Ok (b, y)) → x ≡ y
ok-rest {A = A} a b x y h = ap (λ (z : A × List ℕ). z.1) (ok-same (a, x) (b, y) h)

-- a byte that is released is passed over
released : (signs : Signs) (at : ℕ) (bytes more : List ℕ) (m : _) → mark_after_release at bytes ≡ Ok (m, more) → behind_terminator signs true bytes ≡ behind_terminator signs false more
released signs at [] more m e = absurd cc
released signs at (c ∷ bytes) more m e = split (ltb c 32) _ _ _ _ e (λ _ h. absurd cc) (λ _ h. ap (behind_terminator signs false) (ok-rest _ m bytes more h))

differs : (x y : ℕ) → x ≢ y → eqb x y ≡ false
differs x y h = search (rules, tests)

-- the terminator ends a segment
ends-inside : (named : _) (b : ℕ) → IsInside (mark_of named b) → named.component_separator ≢ named.terminator → named.element_separator ≢ named.terminator → b ≡ named.terminator → ⊥
ends-inside named b inside c e is =
    let apart : b ≢ named.component_separator = λ h. c (sym h ∙ is) in
    let other : b ≢ named.element_separator = λ h. e (sym h ∙ is) in
    let same : eqb b named.terminator ≡ true = search (rules, tests) in
    inside (rw (differs b named.component_separator apart, differs b named.element_separator other, same) refl)

plain : (named : _) (signs : Signs) (b : ℕ) (bytes : List ℕ) → AreFor named signs → IsInside (mark_of named b) → is_release signs.release b ≡ false
    → behind_terminator signs false (b ∷ bytes) ≡ behind_terminator signs false bytes
plain named signs b bytes known inside release =
    let other : b ≢ signs.terminator = λ h. ends-inside named b inside known.component known.element (h ∙ known.terminator) in
    rw (release, differs b signs.terminator other) refl

-- a mark that does not end the segment is passed over
passed-by : (named : _) (signs : Signs) (m : _) (at b : ℕ) (bytes more : List ℕ) → AreFor named signs → first_mark named at (b ∷ bytes) ≡ Ok (m, more) → IsInside m
    → behind_terminator signs false (b ∷ bytes) ≡ behind_terminator signs false more
passed-by named signs m at b bytes more known h inside =
    split (ltb b 32) _ _ _ _ h (λ _ h. absurd cc) (λ _ h. split (releases named b) _ _ _ _ h
    (λ t h. rw (ap (λ o. is_release o b) known.release ∙ t) (released signs at bytes more m h))
    (λ t h. plain named signs b bytes known (subst IsInside (sym (ok-first _ m bytes more h)) inside) (ap (λ o. is_release o b) known.release ∙ t)
    ∙ ap (behind_terminator signs false) (ok-rest _ m bytes more h)))

mark-passed : (named : _) (signs : Signs) (m : _) (at : ℕ) (text more : List ℕ) → AreFor named signs → first_mark named at text ≡ Ok (m, more) → IsInside m
    → behind_terminator signs false text ≡ behind_terminator signs false more
mark-passed named signs m at [] more known h inside = absurd cc
mark-passed named signs m at (b ∷ bytes) more known h inside = passed-by named signs m at b bytes more known h inside

-- no mark begins with a line end
mark-no_feed : (named : _) (m : _) (at : ℕ) (text more : List ℕ) → first_mark named at text ≡ Ok (m, more) → BeginsWithLineEnd text → ⊥
mark-no_feed named m at [] more h e = e
mark-no_feed named m at (b ∷ bytes) more h (inl e) = let P : ℕ → Type 0 = λ x. first_mark named at (x ∷ bytes) ≡ Ok (m, more) in let at13 = subst P e h in absurd cc
mark-no_feed named m at (b ∷ bytes) more h (inr e) = let P : ℕ → Type 0 = λ x. first_mark named at (x ∷ bytes) ≡ Ok (m, more) in let at10 = subst P e h in absurd cc

same-test : (x : ℕ) → eqb x x ≡ true
same-test x = search (rules, tests)

-- the terminator is passed over, and nothing else
end-passed : (named : _) (signs : Signs) (more : List ℕ) → AreFor named signs → behind_terminator signs false (named.terminator ∷ more) ≡ more
end-passed named signs more known =
    let test : eqb named.terminator signs.terminator ≡ true = rw known.terminator (same-test named.terminator) in
    rw (ap (λ o. is_release o named.terminator) known.release ∙ known.released, test) refl

-- a segment is passed over: marks that do not end it, and then its end
marks-passed : (named : _) (signs : Signs) (marks : List _) (own more : List ℕ) → AreFor named signs → AllByRecursion IsInside marks → SpellsMarks named (marks ++ segment_marks []) own
    → behind_terminator signs false (own ++ more) ≡ more
marks-passed named signs [] own more known inside h =
    let is : own ≡ named.terminator ∷ [] = h.whole ∙ ap (λ (x : List ℕ). h.front ++ x) h.of_back ∙ append-nil h.front ∙ h.of_front in
    ap (λ (x : List ℕ). behind_terminator signs false (x ++ more)) is ∙ end-passed named signs more known
marks-passed named signs (m ∷ marks) own more known inside h =
    let is : own ++ more ≡ h.front ++ (h.back ++ more) = ap (λ (x : List ℕ). x ++ more) h.whole ∙ append_assoc h.front h.back more in
    let first = first_mark-spelled named 0 m h.front (h.back ++ more) known.usable h.of_front in
    ap (behind_terminator signs false) is ∙ mark-passed named signs m 0 (h.front ++ (h.back ++ more)) (h.back ++ more) known first inside.0
    ∙ marks-passed named signs marks h.back more known inside.1 h.of_back

-- no segment begins with a line end
marks-no_feed : (named : _) (signs : Signs) (marks : List _) (own more : List ℕ) → AreFor named signs → SpellsMarks named (marks ++ segment_marks []) own → BeginsWithLineEnd (own ++ more) → ⊥
marks-no_feed named signs [] own more known h e =
    let is : own ++ more ≡ named.terminator ∷ more = ap (λ (x : List ℕ). x ++ more) (h.whole ∙ ap (λ (x : List ℕ). h.front ++ x) h.of_back ∙ append-nil h.front ∙ h.of_front) in
    terminator-no_feed named.terminator more known.printable (subst BeginsWithLineEnd is e)
  where
    terminator-no_feed : (b : ℕ) (bytes : List ℕ) → 32 ≤ b → BeginsWithLineEnd (b ∷ bytes) → ⊥
    terminator-no_feed b bytes h (inl e) = absurd (omega arith)
    terminator-no_feed b bytes h (inr e) = absurd (omega arith)
marks-no_feed named signs (m ∷ marks) own more known h e =
    let is : own ++ more ≡ h.front ++ (h.back ++ more) = ap (λ (x : List ℕ). x ++ more) h.whole ∙ append_assoc h.front h.back more in
    mark-no_feed named m 0 (h.front ++ (h.back ++ more)) (h.back ++ more) (first_mark-spelled named 0 m h.front (h.back ++ more) known.usable h.of_front) (subst BeginsWithLineEnd is e)

release-apart : (t : Bool) (release terminator : ℕ) → terminator ≢ release → is_release (cond t None (Some release)) terminator ≡ false
release-apart true release terminator h = refl
release-apart false release terminator h = differs terminator release h

-- the service characters of a text are usable
opens-for : (text opening : List ℕ) (named : _) (signs : Signs) → Opens text named opening → signs.release ≡ named.release → signs.terminator ≡ named.terminator → AreFor named signs
opens-for text opening named signs (inl h) release terminator = record {
  usable = opens-usable text opening named (inl h);
  component = rw h.named h.accepted.distinct.component_terminator;
  element = rw h.named h.accepted.distinct.element_terminator;
  released = rw h.named (release-apart (eqb h.advice.release 32) h.advice.release h.advice.terminator h.accepted.distinct.terminator_release);
  printable = rw h.named h.accepted.printable.terminator;
  release = release;
  terminator = terminator;
}
opens-for text opening named signs (inr h) release terminator = record {
  usable = opens-usable text opening named (inr h);
  component = rw h.named (λ e. absurd (omega arith));
  element = rw h.named (λ e. absurd (omega arith));
  released = rw h.named refl;
  printable = rw h.named (omega arith);
  release = release;
  terminator = terminator;
}

-- something that is no line end stands behind the segments, or there are none
abbrev StopsBehind : List SegmentParts → List ℕ → Type 0
StopsBehind segments rest = (segments ≡ []) ⊎ (BeginsWithLineEnd rest → ⊥)

-- the body and what stands behind it begin with no line end, unless there are no segments
segments-no_feed : (named : _) (signs : Signs) (segments : List SegmentParts) (body rest : List ℕ) → AreFor named signs → SpellsSegments named segments body
    → (BeginsWithLineEnd rest → ⊥) → BeginsWithLineEnd (body ++ rest) → ⊥
segments-no_feed named signs [] body rest known h stop e = stop (subst (λ (x : List ℕ). BeginsWithLineEnd (x ++ rest)) h e)
segments-no_feed named signs (segment ∷ segments) body rest known h stop e =
    let is : body ++ rest ≡ h.front ++ (h.back ++ rest) = ap (λ (x : List ℕ). x ++ rest) h.whole ∙ append_assoc h.front h.back rest in
    marks-no_feed named signs _ h.front (h.back ++ rest) known h.of_front.spelled (subst BeginsWithLineEnd is e)

-- the first segment and the line ends behind it, and then those behind them
behind-first : (signs : Signs) (bytes : List ℕ) (count : ℕ) → behind_segments signs bytes (suc count) ≡ behind_segments signs (after_line_ends (behind_terminator signs false bytes)) count
behind-first signs bytes zero = refl
behind-first signs bytes (suc count) = ap (λ (x : List ℕ). after_line_ends (behind_terminator signs false x)) (behind-first signs bytes count)

-- segments that are spelled are passed over
segments-passed : (named : _) (signs : Signs) (segments : List SegmentParts) (body rest : List ℕ) → AreFor named signs → SpellsSegments named segments body → StopsBehind segments rest
    → behind_segments signs (body ++ rest) (length segments) ≡ rest
segments-passed named signs [] body rest known h stops = ap (λ (x : List ℕ). x ++ rest) h
segments-passed named signs (segment ∷ segments) body rest known h (inl none) = absurd cc
segments-passed named signs (segment ∷ segments) body rest known h (inr stop) =
    let gap = h.of_back.front in
    let left = h.of_back.back in
    let behind : h.back ++ rest ≡ gap ++ (left ++ rest) = ap (λ (x : List ℕ). x ++ rest) h.of_back.whole ∙ append_assoc gap left rest in
    let is : body ++ rest ≡ h.front ++ (gap ++ (left ++ rest)) = ap (λ (x : List ℕ). x ++ rest) h.whole ∙ append_assoc h.front h.back rest ∙ ap (λ (x : List ℕ). h.front ++ x) behind in
    let own = marks-passed named signs _ h.front (gap ++ (left ++ rest)) known (inside-joined (all_elements segment)) h.of_front.spelled in
    let gone = gap-passed gap (left ++ rest) h.of_back.of_front (segments-no_feed named signs segments left rest known h.of_back.of_back stop) in
    behind-first signs (body ++ rest) (length segments)
    ∙ ap (λ (x : List ℕ). behind_segments signs (after_line_ends (behind_terminator signs false x)) (length segments)) is
    ∙ ap (λ (x : List ℕ). behind_segments signs (after_line_ends x) (length segments)) own
    ∙ ap (λ (x : List ℕ). behind_segments signs x (length segments)) gone
    ∙ segments-passed named signs segments left rest known h.of_back.of_back (inr stop)

front-empty : (xs ys : List ℕ) → xs ++ ys ≡ [] → xs ≡ []
front-empty [] ys e = refl
front-empty (x ∷ xs) ys e = absurd cc

back-empty : (xs ys : List ℕ) → xs ++ ys ≡ [] → ys ≡ []
back-empty [] ys e = e
back-empty (x ∷ xs) ys e = absurd cc

-- no bytes spell no segments
no-segments : (named : _) (signs : Signs) (segments : List SegmentParts) (body : List ℕ) → AreFor named signs → SpellsSegments named segments body → body ≡ [] → segments ≡ []
no-segments named signs [] body known h e = refl
no-segments named signs (segment ∷ segments) body known h e =
    let own = front-empty h.front h.back (sym h.whole ∙ e) in
    let end = named.terminator ∷ [] in
    let kept = marks-passed named signs _ h.front end known (inside-joined (all_elements segment)) h.of_front.spelled in
    let gone : end ≡ [] = sym kept ∙ ap (λ (x : List ℕ). behind_terminator signs false (x ++ end)) own ∙ end-passed named signs [] known in
    absurd cc

-- the signs and the bytes behind the opening are those of the text
record IsOpened (named : _) (signs : Signs) (segments : List SegmentParts) (body rest bytes : List ℕ) : Type 0 where
  known : AreFor named signs
  stops : StopsBehind segments rest
  same : bytes ≡ body ++ rest

is-opened : (text : List ℕ) (named : _) (signs : Signs) (segments : List SegmentParts) (opening body rest bytes : List ℕ) → SpellsUpTo text named segments opening body rest
    → IsPassed (opening ++ body) rest → ((x : List ℕ) → OpensAs text x signs bytes) → IsOpened named signs segments body rest bytes
is-opened text named signs segments opening body rest bytes reads passed opened =
    let own : Signs = record { release = named.release; terminator = named.terminator } in
    let known = opens-for text opening named own reads.opens refl refl in
    let before : IsPassed opening (body ++ rest) = ⊎_elim (λ (e : opening ++ body ≡ []). inl (front-empty opening body e)) (λ (stop : BeginsWithLineEnd rest → ⊥). inr (segments-no_feed named own segments body rest known reads.spelled stop)) passed in
    let is = opened (body ++ rest) named (record { opening = opening; whole = reads.whole; opens = reads.opens; passed = before }) in
    record {
      known = opens-for text opening named signs reads.opens is.0 is.1;
      stops = ⊎_elim (λ (e : opening ++ body ≡ []). inl (no-segments named own segments body known reads.spelled (back-empty opening body e))) (λ (stop : BeginsWithLineEnd rest → ⊥). inr stop) passed;
      same = is.2;
    }

-- what stands behind the segments that are spelled
spelled-behind : (text : List ℕ) (named : _) (signs : Signs) (segments : List SegmentParts) (opening body rest bytes : List ℕ) → SpellsUpTo text named segments opening body rest
    → IsPassed (opening ++ body) rest → ((x : List ℕ) → OpensAs text x signs bytes) → behind_segments signs bytes (length segments) ≡ rest
spelled-behind text named signs segments opening body rest bytes reads passed opened =
    let is = is-opened text named signs segments opening body rest bytes reads passed opened in
    ap (λ (x : List ℕ). behind_segments signs x (length segments)) is.same ∙ segments-passed named signs segments body rest is.known reads.spelled is.stops

-- behind the last segment there is nothing
empty-from : (signs : Signs) (bytes : List ℕ) (n m : ℕ) → behind_segments signs bytes n ≡ [] → n ≤ m → behind_segments signs bytes m ≡ []
empty-from signs bytes n zero h le = let same : n ≡ zero = omega arith in subst (λ k. behind_segments signs bytes k ≡ []) same h
empty-from signs bytes n (suc m) h le =
    ⊎_elim (λ (at : m < n). let same : n ≡ suc m = omega arith in subst (λ k. behind_segments signs bytes k ≡ []) same h)
    (λ (below : n ≤ m). ap (λ (x : List ℕ). after_line_ends (behind_terminator signs false x)) (empty-from signs bytes n m h below)) (cases_lt m n)

-- the segment begins where what stands behind those before it does
pub place-is : (text : List ℕ) (number offset : ℕ) (signs : Signs) (bytes last : List ℕ) → IsSegmentAt text number offset → ((x : List ℕ) → OpensAs text x signs bytes)
    → behind_segments signs bytes (number - 1) ≡ last → length text - length last ≡ offset
place-is text number offset signs bytes last at opened e =
    let count : number - 1 ≡ length at.segments = omega (arith, at.counted) in
    let rest : last ≡ at.rest = sym e ∙ ap (behind_segments signs bytes) count ∙ spelled-behind text at.reads.0 signs at.segments at.opening at.body at.rest bytes at.reads.1 at.passed opened in
    let whole = ap (λ (x : List ℕ). length x) at.reads.1.whole in
    omega (arith, whole, at.place, ap (λ (x : List ℕ). length x) rest, length-append at.opening (at.body ++ at.rest), length-append at.body at.rest, length-append at.opening at.body)

-- where nothing stands behind fewer segments, it begins nowhere
pub place-none : (text : List ℕ) (number offset n : ℕ) (signs : Signs) (bytes last : List ℕ) → IsSegmentAt text number offset → ((x : List ℕ) → OpensAs text x signs bytes)
    → behind_segments signs bytes n ≡ last → length last ≡ 0 → n + 1 ≤ number → ⊥
place-none text number offset n signs bytes last at opened e none le =
    let before : n ≤ length at.segments = omega (arith, at.counted) in
    let empty = empty-from signs bytes n (length at.segments) (e ∙ nothing last none) before in
    at.some (sym (spelled-behind text at.reads.0 signs at.segments at.opening at.body at.rest bytes at.reads.1 at.passed opened) ∙ empty)
  where
    nothing : (xs : List ℕ) → length xs ≡ 0 → xs ≡ []
    nothing [] h = refl
    nothing (x ∷ xs) h = absurd (omega arith)

-- something stands behind the segments before a number only where the text does not spell fewer
pub none-spelled : (text : List ℕ) (number count : ℕ) (signs : Signs) (bytes last : List ℕ) → IsSpelledBy text count → count < number → ((x : List ℕ) → OpensAs text x signs bytes)
    → behind_segments signs bytes (number - 1) ≡ last → length last ≢ 0 → ⊥
none-spelled text number count signs bytes last at few opened e some =
    let behind = spelled-behind text at.reads.0 signs at.segments at.opening at.body [] bytes at.reads.1 (inr (λ h. h)) opened in
    let empty = empty-from signs bytes (length at.segments) (number - 1) behind (omega (arith, at.counted)) in
    some (ap (λ (x : List ℕ). length x) (sym e ∙ empty))

-- what stands at the offset behind a front
drop-behind : (front rest : List ℕ) → drop (length front) (front ++ rest) ≡ rest
drop-behind [] rest = refl
drop-behind (x ∷ front) rest = drop-behind front rest

-- the bytes of a segment stand at its offset
pub segment-there : (text : List ℕ) (number offset : ℕ) (own : List ℕ) (of : IsSegmentText text number offset own) → drop offset text ≡ own ++ of.more
segment-there text number offset own of =
    let at = of.at in
    let front = at.opening ++ at.body in
    let whole : text ≡ front ++ (own ++ of.more) = at.reads.1.whole ∙ sym (append_assoc at.opening at.body at.rest) ∙ ap (λ (x : List ℕ). front ++ x) of.whole in
    ap (λ n. drop n text) at.place ∙ ap (drop (length front)) whole ∙ drop-behind front (own ++ of.more)

-- a segment ends with its terminator
pub end-is : (text : List ℕ) (number offset : ℕ) (own : List ℕ) (signs : Signs) (bytes : List ℕ) → IsSegmentText text number offset own
    → ((x : List ℕ) → OpensAs text x signs bytes) → length text - length (behind_terminator signs false (drop offset text)) ≡ offset + length own
end-is text number offset own signs bytes of opened =
    let at = of.at in
    let is = is-opened text at.reads.0 signs at.segments at.opening at.body at.rest bytes at.reads.1 at.passed opened in
    let left : behind_terminator signs false (drop offset text) ≡ of.more =
    ap (behind_terminator signs false) (segment-there text number offset own of)
    ∙ marks-passed at.reads.0 signs _ own of.more is.known (inside-joined (all_elements of.segment)) of.spelled.spelled in
    omega (
      arith,
      at.place,
      ap (λ (x : List ℕ). length x) at.reads.1.whole,
      ap (λ (x : List ℕ). length x) of.whole,
      ap (λ (x : List ℕ). length x) left,
      length-append at.opening (at.body ++ at.rest),
      length-append at.body at.rest,
      length-append at.opening at.body,
      length-append own of.more,
    )
