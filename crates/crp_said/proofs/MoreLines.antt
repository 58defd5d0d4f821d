-- Lines of a report, and one line more.
use Rattle.std.proofs.Common.{◌≡◌, ◌≢◌, ◌↔◌, ℕ, ◌+◌, ◌-◌, Bool, false, cond, List, [], ◌∷◌, ◌++◌, length, take, length-append, refl, sym, ap, ◌∙◌, arith, inl, inr, ⊎_elim, append_assoc, append-nil}
use Rattle.std.specs.Prelude.{flat_map, count_by, IsTrue}
use Rattle.std.proofs.Math.Seq.{take-append_seam}
use Rattle.std.proofs.lemmas.List.Sums.{sum_by-append}
use Rattle.std.specs.List.{AllByRecursion}
use Rattle.crp_said.specs.declared.said.Said.{Said}
use Rattle.crp_said.specs.Said.{bays_line, is_settled}
use Rattle.crp_said.specs.Spelled.{IsBayLine, IsLastLine, ended}
use Rattle.crp_said.specs.declared.completing.Tally.{Tally}
use Rattle.crp_said.specs.Tallied.{AreTallied}
use Rattle.crp_said.specs.Completed.{IsOneLine, words_in, EndWithLast, SaysOfBay, SayOfBays}
use Rattle.crp_cert.proofs.Joined.{all_both}

-- ---- cut at their LF

pub none_cut : (text : List ℕ) → (lines : List (List ℕ)) × AllByRecursion IsOneLine lines × (text ≡ flat_map ended lines ++ text)
none_cut text = ([], tt, refl)

pub ended_more : (lines : List (List ℕ)) (line : List ℕ) → flat_map ended (lines ++ line ∷ []) ≡ flat_map ended lines ++ ended line
ended_more [] line = append-nil (ended line)
ended_more (first ∷ lines) line = ap (λ l. ended first ++ l) (ended_more lines line) ∙ sym (append_assoc (ended first) (flat_map ended lines) (ended line))

pub cut_more : (text : List ℕ) (lines : List (List ℕ)) (line rest behind : List ℕ) → text ≡ flat_map ended lines ++ rest → rest ≡ line ++ 10 ∷ behind
    → text ≡ flat_map ended (lines ++ line ∷ []) ++ behind
cut_more text lines line rest behind is cut =
    is ∙ ap (λ l. flat_map ended lines ++ l) (cut ∙ sym (append_assoc line (10 ∷ []) behind)) ∙ sym (append_assoc (flat_map ended lines) (ended line) behind)
    ∙ ap (λ l. l ++ behind) (sym (ended_more lines line))

-- ---- whether a last line ends them

empty_more : (lines : List (List ℕ)) (line : List ℕ) → words_in line ≡ [] → AllByRecursion (λ other. words_in other ≡ []) lines → AllByRecursion (λ other. words_in other ≡ []) (lines ++ line ∷ [])
empty_more lines line none all = all_both (λ other. words_in other ≡ []) lines (line ∷ []) all (none, tt)

empty_before : (lines : List (List ℕ)) (line : List ℕ) → AllByRecursion (λ other. words_in other ≡ []) (lines ++ line ∷ []) → AllByRecursion (λ other. words_in other ≡ []) lines × (words_in line ≡ [])
empty_before [] line all = (tt, all.0)
empty_before (first ∷ lines) line all = let more = empty_before lines line all.1 in ((all.0, more.0), more.1)

no_words : (line : List ℕ) → words_in line ≡ [] → ¬ IsLastLine (words_in line)
no_words line none (count, settled, few, fewer, e) = let k : ended [] ≡ bays_line count settled = ap ended (sym none) ∙ e in cc

pub ended_by_empty : (lines : List (List ℕ)) (line : List ℕ) → words_in line ≡ [] → (EndWithLast lines → EndWithLast (lines ++ line ∷ [])) × (EndWithLast (lines ++ line ∷ []) → EndWithLast lines)
ended_by_empty [] line none = (absurd, λ ends. ⊎_elim absurd (λ last. no_words line none last.0) ends)
ended_by_empty (first ∷ lines) line none =
    let more = ended_by_empty lines line none in (
      λ ends. ⊎_elim (λ later. inl (more.0 later)) (λ last. inr (last.0, empty_more lines line none last.1)) ends,
      λ ends. ⊎_elim (λ later. inl (more.1 later)) (λ last. inr (last.0, (empty_before lines line last.1).0)) ends,
    )

pub ended_by_last : (lines : List (List ℕ)) (line : List ℕ) → IsLastLine (words_in line) → EndWithLast (lines ++ line ∷ [])
ended_by_last [] line last = inr (last, tt)
ended_by_last (first ∷ lines) line last = inl (ended_by_last lines line last)

pub ended_by_other : (lines : List (List ℕ)) (line : List ℕ) → words_in line ≢ [] → ¬ IsLastLine (words_in line) → ¬ EndWithLast (lines ++ line ∷ [])
ended_by_other [] line some other ends = ⊎_elim absurd (λ last. other last.0) ends
ended_by_other (first ∷ lines) line some other ends = ⊎_elim (ended_by_other lines line some other) (λ last. some (empty_before lines line last.1).1) ends

-- ---- what they say of bays

pub say_no_more : (lines : List (List ℕ)) (line : List ℕ) (said : List Said) → ¬ IsBayLine (words_in line) → SayOfBays lines said → SayOfBays (lines ++ line ∷ []) said
say_no_more [] line [] bay_none say = (bay_none, refl)
say_no_more [] line (s ∷ said) bay_none say = cc
say_no_more (first ∷ lines) line [] bay_none say = (say.0, say_no_more lines line [] bay_none say.1)
say_no_more (first ∷ lines) line (s ∷ said) bay_none say =
    ⊎_elim (λ other. inl (other.0, say_no_more lines line (s ∷ said) bay_none other.1)) (λ bay. inr (bay.0, say_no_more lines line said bay_none bay.1)) say

pub say_more : (lines : List (List ℕ)) (line : List ℕ) (said : List Said) (last : Said) → SaysOfBay line last → SayOfBays lines said → SayOfBays (lines ++ line ∷ []) (said ++ last ∷ [])
say_more [] line [] last is say = inr (is, refl)
say_more [] line (s ∷ said) last is say = cc
say_more (first ∷ lines) line [] last is say = inl (say.0, say_more lines line [] last is say.1)
say_more (first ∷ lines) line (s ∷ said) last is say =
    ⊎_elim (λ other. inl (other.0, say_more lines line (s ∷ said) last is other.1)) (λ bay. inr (bay.0, say_more lines line said last is bay.1)) say

-- ---- and so many of these are settled

settled_more : (said : List Said) (last : Said) (t : Bool) → is_settled last ≡ t → count_by is_settled (said ++ last ∷ []) ≡ count_by is_settled said + cond t 1 0
settled_more said last t e =
    let k : count_by is_settled (said ++ last ∷ []) ≡ count_by is_settled said + (0 + cond {A = ℕ} (is_settled last) 1 0) = sum_by-append (λ s. cond (is_settled s) 1 0) said (last ∷ []) in
    let one : cond {A = ℕ} (is_settled last) 1 0 ≡ cond {A = ℕ} t 1 0 = ap (λ b. cond b 1 0) e in
    k ∙ omega (arith, one)

-- ---- what they come to

pub none_tallied : AreTallied [] (record { bays = 0; settled = 0; ended = false })
none_tallied = record { said = []; say = refl; bays = refl; settled = refl; ended = (λ t. cc, absurd) }

pub no_bay_more : (lines : List (List ℕ)) (line : List ℕ) (t : Tally) (now : Bool) → AreTallied lines t → ¬ IsBayLine (words_in line) → (IsTrue now ↔ EndWithLast (lines ++ line ∷ []))
    → AreTallied (lines ++ line ∷ []) (record { bays = t.bays; settled = t.settled; ended = now })
no_bay_more lines line t now are none ends = record {
  said = are.said;
  say = say_no_more lines line are.said none are.say;
  bays = are.bays;
  settled = are.settled;
  ended = ends;
}

pub bay_more : (lines : List (List ℕ)) (line : List ℕ) (t : Tally) (last : Said) (s : Bool) (settled : ℕ) (now : Bool) → AreTallied lines t → SaysOfBay line last → is_settled last ≡ s
    → settled ≡ t.settled + cond s 1 0 → (IsTrue now ↔ EndWithLast (lines ++ line ∷ [])) → AreTallied (lines ++ line ∷ []) (record { bays = t.bays + 1; settled = settled; ended = now })
bay_more lines line t last s settled now are is e count ends = record {
  said = are.said ++ last ∷ [];
  say = say_more lines line are.said last is are.say;
  bays = ap (λ n. n + 1) are.bays ∙ sym (length-append are.said (last ∷ []));
  settled = count ∙ ap (λ n. n + cond s 1 0) are.settled ∙ sym (settled_more are.said last s e);
  ended = ends;
}

-- the whole lines of a text
pub whole_lines : (text whole rest : List ℕ) → text ≡ whole ++ rest → take (length text - length rest) text ≡ whole
whole_lines text whole rest e =
    let long : length text - length rest ≡ length whole = omega (arith, ap length e, length-append whole rest) in
    ap (λ n. take n text) long ∙ ap (take (length whole)) e ∙ take-append_seam whole rest
