-- A segment that orders a container again, and what holds of what there is.
use Rattle.std.proofs.Common.{◌≡◌, ◌∙◌, ◌<◌, ◌+◌, ◌-◌, ℕ, Option, Some, None, IfSome, Result, Ok, Err, IfOk, List, length, take, drop, subst, sym, ap, arith}
use Rattle.std.specs.Prelude.{codes}
use Rattle.std.proofs.Math.Seq.{take-append_seam}
use Rattle.crp_places.specs.Lines.{line_of}
use Rattle.crp_places.specs.Segments.{IsSegmentAt, IsSegmentText, IsSpelledBy}
use Rattle.crp_places.proofs.SegmentSteps.{segment-there}
use Rattle.crp_jobs.specs.Firsts.{detailed_text, first_words}
use Rattle.crp_jobs.specs.MessageLines.{IsOrderedAgainLine}
use Rattle.crp_jobs.specs.Placed.{IsSegmentLine, end_text, line_front, shown}

pub some_by : {T : Type 0} (o : Option T) (P Q : T → Type 0) → IfSome o P → ((x : T) → P x → Q x) → IfSome o Q
some_by None P Q p by = tt
some_by (Some x) P Q p by = by x p

pub ok_by : {T E : Type 0} (r : Result T E) (P Q : T → Type 0) → IfOk r P → ((x : T) → P x → Q x) → IfOk r Q
ok_by (Ok x) P Q p by = by x p
ok_by (Err e) P Q p by = tt

-- there is no first one
pub again-no-first : (n first : ℕ) (text line : List ℕ) → ((offset : ℕ) → IsSegmentAt text first offset → None ≡ Some offset) → IsSegmentLine n text line → IsOrderedAgainLine n first text line
again-no-first n first text line place is = record { there = λ offset before own of at. (let e = place before at in absurd cc); none = is.none }

-- there is no second one
pub again-none : (n first : ℕ) (text said items : List ℕ) → said ≡ end_text text → items ≡ shown said → ((offset : ℕ) → IsSegmentAt text n offset → None ≡ Some offset)
    → IsOrderedAgainLine n first text items
again-none n first text said items of_said of_items place = record {
  there = λ offset before own of at. (let e = place offset of.at in absurd cc);
  none = λ count spelled less. of_items ∙ ap shown of_said;
}

-- both are there
pub again-line : (n first at here line front end : ℕ) (text words bytes said items : List ℕ) → line ≡ line_of text at → front ≡ line_of text here
    → words ≡ first_words (codes "segment ") first front → bytes ≡ line_front (take (end - at) (drop at text)) → said ≡ detailed_text (codes "segment ") n line words bytes → items ≡ shown said
    → ((number : ℕ) (own : List ℕ) → IsSegmentText text number at own → end ≡ at + length own) → ((offset : ℕ) → IsSegmentAt text n offset → Some at ≡ Some offset)
    → ((count : ℕ) → IsSpelledBy text count → count < n → Some at ≡ None) → ((offset : ℕ) → IsSegmentAt text first offset → Some here ≡ Some offset) → IsOrderedAgainLine n first text items
again-line n first at here line front end text words bytes said items of_line of_front of_words of_bytes of_said of_items ends place few place_first = record {
  there = λ offset before own of is.
      let kind : List ℕ = codes "segment " in
      let same : at ≡ offset = (let e = place offset of.at in cc) in
      let first_same : here ≡ before = (let e = place_first before is in cc) in
      let own_here : IsSegmentText text n at own = subst (λ (k : ℕ). IsSegmentText text n k own) (sym same) of in
      let count : end - at ≡ length own = omega (arith, ends n own own_here) in
      let own_bytes : take (end - at) (drop at text) ≡ own =
      ap (λ k. take k (drop at text)) count ∙ ap (take (length own)) (segment-there text n at own own_here) ∙ take-append_seam own own_here.more in
      of_items ∙ ap shown (of_said ∙ ap (detailed_text kind n line words) (of_bytes ∙ ap line_front own_bytes)
      ∙ ap (λ k. detailed_text kind n k words (line_front own)) (of_line ∙ ap (line_of text) same)
      ∙ ap (λ (w : List ℕ). detailed_text kind n (line_of text offset) w (line_front own)) (of_words ∙ ap (first_words kind first) (of_front ∙ ap (line_of text) first_same)));
  none = λ count spelled less. (let e = few count spelled less in absurd cc);
}
