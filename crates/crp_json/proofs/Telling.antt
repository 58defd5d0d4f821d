-- What a sink in front of the standard error has got so far, and what a piece adds.
use Rattle.std.proofs.Common.{take_all, ◌≡◌, ◌≢◌, ℕ, zero, suc, ◌+◌, Bool, true, false, List, [], ◌∷◌, ◌++◌, length, take, Option, Some, None, refl, sym, ap, ◌∙◌, subst, arith, append_assoc, append-nil}
use Rattle.std.specs.Prelude.{Result, Ok, Err, flat_map}
use Rattle.std.specs.Io.KnownBytes.{Appends, WriteAppends}
use Rattle.std.specs.List.{AllByRecursion}
use Rattle.std.proofs.Math.Logic.{∥∥₁_map}
use Rattle.std.proofs.lemmas.Grind.{flat_map-append}
use Rattle.crp_plan.specs.declared.device.Failure.{Failure}
use Rattle.crp_plan.specs.Devices.{CountsWrite}
use Rattle.crp_cert.proofs.Joined.{all_both}
use Rattle.crp_said.specs.Spelled.{ended}
use Rattle.crp_json.specs.Errors.{error_line, IsLine}
use Rattle.crp_json.specs.Told.{text_of, objects_of, holds_in, GotMore, IsTold, IsTaken, IsLeft, IsToldAnswer}
use Rattle.crp_json.proofs.Growing.{one_more}
use Rattle.crp_json.proofs.Showing.{grown, nothing_more, not_none, same_holds}

-- ---- a piece

-- a piece up to its first LF
take_line : (bytes rest : List ℕ) → take (suc (length bytes)) (bytes ++ 10 ∷ rest) ≡ bytes ++ 10 ∷ []
take_line [] rest = refl
take_line (b ∷ bytes) rest = ap (λ l. b ∷ l) (take_line bytes rest)

line_taken : (bytes rest piece : List ℕ) → piece ≡ bytes ++ 10 ∷ rest → take (length bytes + 1) piece ≡ bytes ++ 10 ∷ []
line_taken bytes rest piece e =
    let n : length bytes + 1 ≡ suc (length bytes) = omega arith in
    ap (λ t. take (length bytes + 1) t) e ∙ ap (λ k. take k (bytes ++ 10 ∷ rest)) n ∙ take_line bytes rest

-- the text, where the line under way ends
text_ended : (lines : List (List ℕ)) (line bytes : List ℕ) → text_of (lines ++ (line ++ bytes) ∷ []) [] ≡ text_of lines line ++ (bytes ++ 10 ∷ [])
text_ended lines line bytes =
    append-nil (flat_map ended (lines ++ (line ++ bytes) ∷ [])) ∙ one_more ended lines (line ++ bytes) ∙ ap (λ l. flat_map ended lines ++ l) (append_assoc line bytes (10 ∷ []))
    ∙ sym (append_assoc (flat_map ended lines) line (bytes ++ 10 ∷ []))

pub taken_ended : (lines new_lines : List (List ℕ)) (line new_line bytes rest piece : List ℕ) (holds new_holds : Option (List ℕ)) → piece ≡ bytes ++ 10 ∷ rest → IsLine bytes
    → new_lines ≡ lines ++ (line ++ bytes) ∷ [] → new_line ≡ [] → Appends holds new_holds (error_line (line ++ bytes))
    → IsTaken lines new_lines line new_line holds new_holds (take (length bytes + 1) piece)
taken_ended lines new_lines line new_line bytes rest piece holds new_holds is plain ended_so empty written = record {
  more = (line ++ bytes) ∷ [];
  added = ended_so;
  text = ap (λ l. text_of new_lines l) empty ∙ ap (λ ls. text_of ls []) ended_so ∙ text_ended lines line bytes ∙ ap (λ l. text_of lines line ++ l) (sym (line_taken bytes rest piece is));
  plain = λ begun. ((all_both (λ b. b ≢ 10) line bytes begun plain, tt), subst IsLine (sym empty) tt);
  objects = subst (λ (added : List ℕ). Appends holds new_holds added) (sym (append-nil (error_line (line ++ bytes)))) written;
}

-- a piece without an LF
pub taken_plain : (lines : List (List ℕ)) (line new_line piece : List ℕ) (holds : Option (List ℕ)) → IsLine piece → new_line ≡ line ++ piece
    → IsTaken lines lines line new_line holds holds (take (length piece) piece)
taken_plain lines line new_line piece holds plain grown_so = record {
  more = [];
  added = sym (append-nil lines);
  text = ap (λ l. text_of lines l) grown_so ∙ sym (append_assoc (flat_map ended lines) line piece) ∙ ap (λ l. text_of lines line ++ l) (sym (take_all (length piece) piece (omega arith)));
  plain = λ begun. (tt, subst IsLine (sym grown_so) (all_both (λ b. b ≢ 10) line piece begun plain));
  objects = nothing_more holds [] refl;
}

-- nothing is written
pub left_alone : (lines new_lines : List (List ℕ)) (line new_line : List ℕ) (holds : Option (List ℕ)) → new_lines ≡ lines → new_line ≡ line → IsLeft lines new_lines line new_line holds holds
left_alone lines new_lines line new_line holds a b = record { lines_kept = a; line_kept = b; next = line; plain = λ p. p; front = (0, nothing_more holds [] refl) }

-- ---- the sink

-- it then holds the front too
pub told_holds : (is_json : Bool) (held holds new_holds : Option (List ℕ)) (failed : ℕ) (r : Result ℕ Failure) (lines new_lines : List (List ℕ)) (line new_line piece : List ℕ)
    → IsToldAnswer is_json failed r lines new_lines line new_line holds new_holds piece
    → WriteAppends (holds_in held holds lines line is_json) (holds_in held new_holds new_lines new_line is_json) r piece
told_holds false held holds new_holds failed r lines new_lines line new_line piece a = a.2
told_holds true None holds new_holds failed (Ok n) lines new_lines line new_line piece a = tt
told_holds true (Some before) holds new_holds failed (Ok n) lines new_lines line new_line piece a =
    ap (λ l. before ++ l) a.2.text ∙ sym (append_assoc before (text_of lines line) (take n piece))
told_holds true None holds new_holds failed (Err e) lines new_lines line new_line piece a = tt
told_holds true (Some before) holds new_holds failed (Err e) lines new_lines line new_line piece a =
    ap (λ (ls : List (List ℕ)). before ++ text_of ls new_line) a.0.lines_kept ∙ ap (λ l. before ++ text_of lines l) a.0.line_kept

still_lines : (lines new_lines : List (List ℕ)) (line new_line : List ℕ) → new_lines ≡ lines → new_line ≡ line → ∥ AllByRecursion IsLine lines × IsLine line ∥₁
    → ∥ AllByRecursion IsLine new_lines × IsLine new_line ∥₁
still_lines lines new_lines line new_line a b w =
    subst (λ (ls : List (List ℕ)). ∥ AllByRecursion IsLine ls × IsLine new_line ∥₁) (sym a) (subst (λ (l : List ℕ). ∥ AllByRecursion IsLine lines × IsLine l ∥₁) (sym b) w)

pub told_on : (is_json : Bool) (held holds new_holds : Option (List ℕ)) (failed new_failed : ℕ) (r : Result ℕ Failure) (lines new_lines : List (List ℕ)) (line new_line piece : List ℕ)
    → IsTold held (record { is_json = is_json; lines = lines; line = line; holds = holds; failures = failed })
    → IsToldAnswer is_json failed r lines new_lines line new_line holds new_holds piece → CountsWrite failed new_failed r piece
    → IsTold held (record { is_json = is_json; lines = new_lines; line = new_line; holds = new_holds; failures = new_failed })
told_on false held holds new_holds failed new_failed r lines new_lines line new_line piece t a counted = record {
  each = still_lines lines new_lines line new_line a.0 a.1 t.each;
  objects = λ before is asked none. cc;
  front = λ before is asked. cc;
}
told_on true held holds new_holds failed new_failed (Ok n) lines new_lines line new_line piece t a counted =
    let k = a.2 in
    let now : (before : List ℕ) → held ≡ Some before → new_holds ≡ Some (before ++ objects_of new_lines) =
    λ before is. (grown holds new_holds before (objects_of lines) (objects_of k.more) (t.objects before is refl a.1) k.objects
    ∙ ap (λ (l : List ℕ). Some (before ++ l)) (sym (flat_map-append error_line lines k.more) ∙ ap objects_of (sym k.added))) in
    record {
      each = ∥∥₁_map t.each (λ (w : AllByRecursion IsLine lines × IsLine line).
          (subst (λ (ls : List (List ℕ)). AllByRecursion IsLine ls) (sym k.added) (all_both IsLine lines k.more w.0 (k.plain w.1).0), (k.plain w.1).1));
      objects = λ before is asked none. now before is;
      front = λ before is asked. ∣ ([], 0, tt, now before is ∙ ap (λ (l : List ℕ). Some (before ++ l)) (sym (append-nil (objects_of new_lines)))) ∣₁;
    }
told_on true held holds new_holds zero new_failed (Err e) lines new_lines line new_line piece t a counted =
    let k = a.0 in
    record {
      each = still_lines lines new_lines line new_line k.lines_kept k.line_kept t.each;
      objects = λ before is asked none. absurd (not_none zero (sym none ∙ counted));
      front = λ before is asked.
          (subst (λ (ls : List (List ℕ)). ∥ GotMore ls before new_holds ∥₁) (sym k.lines_kept) (∥∥₁_map t.each (λ (w : AllByRecursion IsLine lines × IsLine line).
          (k.next, k.front.0, k.plain w.1, grown holds new_holds before (objects_of lines) (take k.front.0 (error_line k.next)) (t.objects before is refl refl) k.front.1))));
    }
told_on true held holds new_holds (suc failed) new_failed (Err e) lines new_lines line new_line piece t a counted =
    let k = a.0 in
    record {
      each = still_lines lines new_lines line new_line k.lines_kept k.line_kept t.each;
      objects = λ before is asked none. absurd (not_none (suc failed) (sym none ∙ counted));
      front = λ before is asked.
          (subst (λ (ls : List (List ℕ)). ∥ GotMore ls before new_holds ∥₁) (sym k.lines_kept) (∥∥₁_map (t.front before is refl)
          (λ (w : GotMore lines before holds). (w.0, w.1, w.2, same_holds holds new_holds _ w.3 (a.1 (λ z. omega (arith, z)))))));
    }
