-- As much of a text as a line has room for, byte by byte.
use Rattle.std.proofs.Common.{◌≡◌, ◌≢◌, ◌<◌, ◌≤◌, ◌+◌, ◌-◌, ℕ, zero, suc, Option, Some, None, Bool, true, false, List, [], ◌∷◌, ◌++◌, length, take, drop, map, get_or, subst, refl, sym, ap, ◌∙◌, IsTrue, arith, append_assoc, length-append, length-take, tests}
use Rattle.std.proofs.lemmas.List.{append-nil, map-append, take-append-drop, take-append-le, take_all, take_more}
use Rattle.std.proofs.lemmas.List.Folds.{list_all-append}
use Rattle.std.proofs.Math.Seq.{take-append_seam}
use Rattle.std.specs.Fmt.{decimal}
use Rattle.crp_places.specs.Lines.{line_of}
use Rattle.crp_places.specs.Segments.{IsSegmentAt, IsSegmentText, IsSpelledBy}
use Rattle.crp_places.proofs.SegmentSteps.{segment-there}
use Rattle.std.specs.Prelude.{codes}
use Rattle.crp_jobs.specs.Advice.{is_printable}
use Rattle.crp_jobs.specs.Found.{IsPlainText, plain}
use Rattle.crp_jobs.specs.declared.plain.TheConstants.{MOST_FOUND}
use Rattle.crp_jobs.specs.Placed.{IsSegmentLine, end_text, line_front, place_text, shown}

-- nothing is added yet
pub room-none : (n : ℕ) (line : List ℕ) → length line ≤ n → line ≡ take n (line ++ [])
room-none n line h = sym (take_all n line h) ∙ ap (take n) (sym (append-nil line))

-- what is full stays as it is
pub room-full : (n i : ℕ) (f : ℕ → ℕ) (old line text : List ℕ) → line ≡ take n (old ++ map f (take i text)) → length line ≡ n → line ≡ take n (old ++ map f text)
room-full n i f old line text h full =
    let front = old ++ map f (take i text) in
    let enough : n ≤ length front = omega (arith, ap (λ (x : List ℕ). length x) h, length-take n front) in
    let whole : old ++ map f text ≡ front ++ map f (drop i text) =
    ap (λ (x : List ℕ). old ++ map f x) (sym (take-append-drop i text)) ∙ ap (λ (x : List ℕ). old ++ x) (map-append f (take i text) (drop i text))
    ∙ sym (append_assoc old (map f (take i text)) (map f (drop i text))) in
    h ∙ sym (take-append-le n front (map f (drop i text)) enough) ∙ ap (take n) (sym whole)

-- one byte more
pub room-more : (n i : ℕ) (f : ℕ → ℕ) (old line text : List ℕ) → line ≡ take n (old ++ map f (take i text)) → length line < n → i < length text
    → line ++ f (get_or text i 0) ∷ [] ≡ take n (old ++ map f (take (i + 1) text))
room-more n i f old line text h room below =
    let front = old ++ map f (take i text) in
    let b = f (get_or text i 0) in
    let short : length front ≤ n = omega (arith, ap (λ (x : List ℕ). length x) h, length-take n front) in
    let is : line ≡ front = h ∙ take_all n front short in
    let next : old ++ map f (take (i + 1) text) ≡ front ++ b ∷ [] =
    ap (λ (x : List ℕ). old ++ map f x) (take_more text i 0 below) ∙ ap (λ (x : List ℕ). old ++ x) (map-append f (take i text) (get_or text i 0 ∷ []))
    ∙ sym (append_assoc old (map f (take i text)) (b ∷ [])) in
    let fits : length (front ++ b ∷ []) ≤ n = omega (arith, length-append front (b ∷ []), ap (λ (x : List ℕ). length x) is, room) in
    ap (λ (x : List ℕ). x ++ b ∷ []) is ∙ sym (take_all n (front ++ b ∷ []) fits) ∙ ap (take n) (sym next)

plain-by : (t : Bool) (b : ℕ) → is_printable b ≡ t → IsTrue (is_printable (Rattle.std.proofs.Common.cond t b 63))
plain-by true b h = h
plain-by false b h = refl

-- what is shown is printable
pub plain-printable : (b : ℕ) → IsTrue (is_printable (plain b))
plain-printable b = plain-by (is_printable b) b refl

-- one printable character more
pub plain-more : (line : List ℕ) (b : ℕ) → IsPlainText line → IsPlainText (line ++ plain b ∷ [])
plain-more line b all =
    let one = plain-printable b in
    rw (list_all-append is_printable line (plain b ∷ []), all, one) refl

-- the words on a place at which something stands
pub place-words : (what bytes : List ℕ) (n line : ℕ) → length bytes ≢ 0
    → place_text what n line bytes ≡ what ++ (decimal n ++ (codes " is at line " ++ (decimal line ++ (codes ": " ++ bytes))))
place-words what [] n line some = absurd (some refl)
place-words what (b ∷ bytes) n line some = refl

-- six pieces, one after the other
pub six_pieces : (a b c d e f t u v w x y z : List ℕ) → t ≡ [] → u ≡ t ++ a → v ≡ u ++ b → w ≡ v ++ c → x ≡ w ++ d → y ≡ x ++ e → z ≡ y ++ f
    → z ≡ a ++ (b ++ (c ++ (d ++ (e ++ f))))
six_pieces a b c d e f t u v w x y z g h i j k l m = rw (m, l, k, j, i, h, g) (simp append_assoc)

-- and seven
pub seven_pieces : (a b c d e f g s t u v w x y z : List ℕ) → s ≡ [] → t ≡ s ++ a → u ≡ t ++ b → v ≡ u ++ c → w ≡ v ++ d → x ≡ w ++ e → y ≡ x ++ f → z ≡ y ++ g
    → z ≡ a ++ (b ++ (c ++ (d ++ (e ++ (f ++ g)))))
seven_pieces a b c d e f g s t u v w x y z h i j k l m n o = rw (o, n, m, l, k, j, i, h) (simp append_assoc)

-- two to four pieces behind others
pub two_more : (old a b y z : List ℕ) → y ≡ old ++ a → z ≡ y ++ b → z ≡ old ++ (a ++ b)
two_more old a b y z e f = f ∙ ap (λ (t : List ℕ). t ++ b) e ∙ append_assoc old a b

pub three_more : (old a b c x y z : List ℕ) → x ≡ old ++ a → y ≡ x ++ b → z ≡ y ++ c → z ≡ old ++ (a ++ (b ++ c))
three_more old a b c x y z e f g =
    g ∙ ap (λ (t : List ℕ). t ++ c) (two_more old a b x y e f) ∙ append_assoc old (a ++ b) c ∙ ap (λ (t : List ℕ). old ++ t) (append_assoc a b c)

pub four_more : (old a b c d w x y z : List ℕ) → w ≡ old ++ a → x ≡ w ++ b → y ≡ x ++ c → z ≡ y ++ d → z ≡ old ++ (a ++ (b ++ (c ++ d)))
four_more old a b c d w x y z e f g h = three_more old a b (c ++ d) w x z e f (two_more x c d y z g h)

-- the line on a segment that is there
pub segment-line : (n at line end : ℕ) (text bytes said items : List ℕ) → line ≡ line_of text at → bytes ≡ line_front (take (end - at) (drop at text))
    → said ≡ place_text (codes "segment ") n line bytes → items ≡ shown said → ((number : ℕ) (own : List ℕ) → IsSegmentText text number at own → end ≡ at + length own)
    → ((offset : ℕ) → IsSegmentAt text n offset → Some at ≡ Some offset) → ((count : ℕ) → IsSpelledBy text count → count < n → Some at ≡ None) → IsSegmentLine n text items
segment-line n at line end text bytes said items of_line of_bytes of_said of_items ends place few = record {
  there = λ offset own of.
      let same : at ≡ offset = (let e = place offset of.at in cc) in
      let here : IsSegmentText text n at own = subst (λ (k : ℕ). IsSegmentText text n k own) (sym same) of in
      let count : end - at ≡ length own = omega (arith, ends n own here) in
      let own_bytes : take (end - at) (drop at text) ≡ own =
      ap (λ k. take k (drop at text)) count ∙ ap (take (length own)) (segment-there text n at own here) ∙ take-append_seam own here.more in
      of_items ∙ ap shown (of_said ∙ ap (λ k. place_text (codes "segment ") n k bytes) (of_line ∙ ap (line_of text) same)
      ∙ ap (place_text (codes "segment ") n (line_of text offset)) (of_bytes ∙ ap line_front own_bytes));
  none = λ count spelled less. (let e = few count spelled less in absurd cc);
}

-- the line where there is none
pub segment-line-none : (n : ℕ) (text said items : List ℕ) → said ≡ end_text text → items ≡ shown said
    → ((offset : ℕ) → IsSegmentAt text n offset → None ≡ Some offset) → IsSegmentLine n text items
segment-line-none n text said items of_said of_items place = record {
  there = λ offset own of. (let e = place offset of.at in absurd cc);
  none = λ count spelled less. of_items ∙ ap shown of_said;
}

-- a text more behind one that is shown
take_of_take : (n : ℕ) (xs ys : List ℕ) → take n (take n xs ++ ys) ≡ take n (xs ++ ys)
take_of_take zero xs ys = refl
take_of_take (suc n) [] ys = refl
take_of_take (suc n) (x ∷ xs) ys = ap (λ (l : List ℕ). x ∷ l) (take_of_take n xs ys)

pub shown_more : (old text line : List ℕ) → line ≡ take MOST_FOUND (shown old ++ map plain text) → line ≡ shown (old ++ text)
shown_more old text line is =
    is ∙ take_of_take MOST_FOUND (map plain old) (map plain text) ∙ ap (take MOST_FOUND) (sym (map-append plain old text))

-- the same of a line to which a text is added, where it has room
pub pushed_more : (old text line next : List ℕ) → line ≡ shown old → (length line ≤ MOST_FOUND → next ≡ take MOST_FOUND (line ++ map plain text)) → next ≡ shown (old ++ text)
pushed_more old text line next is more =
    let few : length line ≤ MOST_FOUND = omega (arith, ap (λ (x : List ℕ). length x) is, length-take MOST_FOUND (map plain old)) in
    shown_more old text next (more few ∙ ap (λ (l : List ℕ). take MOST_FOUND (l ++ map plain text)) is)
