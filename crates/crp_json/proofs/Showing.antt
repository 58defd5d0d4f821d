-- A piece that is answered leaves a sink that shows what it was given.
use Rattle.std.proofs.Common.{◌≡◌, ℕ, ◌+◌, ◌-◌, ◌^◌, zero, suc, min, List, [], ◌∷◌, ◌++◌, take, Option, Some, None, refl, sym, ap, ◌∙◌, subst, arith, append_assoc, append-nil}
use Rattle.std.specs.Prelude.{Result, Ok, Err}
use Rattle.std.specs.List.{AllByRecursion}
use Rattle.std.specs.Io.KnownBytes.{Appends, Keeps, WriteAppends}
use Rattle.std.proofs.Math.Logic.{∥∥₁_map}
use Rattle.std.proofs.lemmas.List.{take_all}
use Rattle.std.proofs.lemmas.Option.{same_Some, none-some}
use Rattle.crp_plan.specs.declared.device.Failure.{Failure}
use Rattle.crp_plan.specs.Devices.{CountsWrite}
use Rattle.crp_cert.proofs.Joined.{all_both}
use Rattle.crp_json.specs.declared.entry.Entry.{Entry}
use Rattle.crp_json.specs.declared.entry.Printed.{Printed}
use Rattle.crp_json.specs.Entries.{IsPiece}
use Rattle.crp_json.specs.Lines.{report_of, json_of}
use Rattle.crp_json.specs.Shown.{entries_in, holds_in, opening, lines_of, GotMore, IsShown, IsAnswer}
use Rattle.crp_json.proofs.Growing.{report_more, lines_more}

-- it then holds the piece too
pub appended : (printed : Printed) (held holds new_holds : Option (List ℕ)) (first : Option (List ℕ)) (failed : ℕ) (r : Result ℕ Failure) (pieces new_pieces : List (List Entry)) (piece : List ℕ)
    → IsAnswer printed first failed r pieces new_pieces holds new_holds piece
    → WriteAppends (holds_in held holds pieces first) (holds_in held new_holds new_pieces first) r piece
appended printed held holds new_holds None failed r pieces new_pieces piece a = a.1
appended printed None holds new_holds (Some line) failed (Ok n) pieces new_pieces piece a = tt
appended printed (Some before) holds new_holds (Some line) failed (Ok n) pieces new_pieces piece a =
    let k = a.2 in
    let all : take n piece ≡ piece = take_all n piece (omega (arith, a.0)) in
    ap (λ (ps : List (List Entry)). before ++ report_of (entries_in ps)) k.added ∙ ap (λ l. before ++ l) (report_more pieces k.entries)
    ∙ sym (append_assoc before (report_of (entries_in pieces)) (report_of k.entries)) ∙ ap (λ l. (before ++ report_of (entries_in pieces)) ++ l) (sym k.is ∙ sym all)
appended printed None holds new_holds (Some line) failed (Err e) pieces new_pieces piece a = tt
appended printed (Some before) holds new_holds (Some line) failed (Err e) pieces new_pieces piece a = ap (λ (ps : List (List Entry)). before ++ report_of (entries_in ps)) a.0.kept

-- a count that is 0 behind a failure cannot be
pub not_none : (failed : ℕ) → 0 ≡ failed + min 1 (2 ^ 64 - 1 - failed) → ⊥
not_none zero e = omega (arith, e)
not_none (suc n) e = omega (arith, e)

-- what was written grows by these bytes, by a front of them, or by none
pub grown : (holds new_holds : Option (List ℕ)) (before bytes more : List ℕ) → holds ≡ Some (before ++ bytes) → Appends holds new_holds more → new_holds ≡ Some (before ++ (bytes ++ more))
grown None new_holds before bytes more e a = absurd (none-some _ e)
grown (Some xs) None before bytes more e a = absurd a
grown (Some xs) (Some ys) before bytes more e a = ap Some (a ∙ ap (λ l. l ++ more) (same_Some xs (before ++ bytes) e) ∙ append_assoc before bytes more)

pub same_holds : (holds new_holds : Option (List ℕ)) (bytes : List ℕ) → holds ≡ Some bytes → Keeps holds new_holds → new_holds ≡ Some bytes
same_holds None new_holds bytes e k = absurd (none-some _ e)
same_holds (Some xs) None bytes e k = absurd k
same_holds (Some xs) (Some ys) bytes e k = ap Some k ∙ e

-- nothing is added
pub nothing_more : (known : Option (List ℕ)) (added : List ℕ) → added ≡ [] → Appends known known added
nothing_more None added e = tt
nothing_more (Some xs) added e = sym (ap (λ l. xs ++ l) e ∙ append-nil xs)

pub no_change : (known : Option (List ℕ)) → Keeps known known
no_change None = tt
no_change (Some xs) = refl

-- nothing is shown yet
pub nothing_shown : (printed : Printed) (held first holds : Option (List ℕ)) → held ≡ holds → IsShown held (record { printed = printed; first = first; pieces = []; holds = holds; failures = 0 })
nothing_shown printed held first holds same =
    let now : (before : List ℕ) → held ≡ Some before → holds ≡ Some (before ++ []) = λ before is. (sym same ∙ is ∙ ap Some (sym (append-nil before))) in
    record { each = ∣ tt ∣₁; lines = λ before line is asked none. now before is; front = λ before line is asked. ∣ ([], 0, tt, now before is) ∣₁ }

pub shown_on : (printed : Printed) (held holds new_holds : Option (List ℕ)) (first : Option (List ℕ)) (failed new_failed : ℕ) (r : Result ℕ Failure) (pieces new_pieces : List (List Entry)) (piece : List ℕ)
    → IsShown held (record { printed = printed; first = first; pieces = pieces; holds = holds; failures = failed })
    → IsAnswer printed first failed r pieces new_pieces holds new_holds piece → CountsWrite failed new_failed r piece
    → IsShown held (record { printed = printed; first = first; pieces = new_pieces; holds = new_holds; failures = new_failed })
shown_on printed held holds new_holds None failed new_failed r pieces new_pieces piece s a counted = record {
  each = subst (λ (ps : List (List Entry)). ∥ AllByRecursion (IsPiece printed) ps ∥₁) (sym a.0) s.each;
  lines = λ before line is asked none. absurd (none-some line asked);
  front = λ before line is asked. absurd (none-some line asked);
}
shown_on printed held holds new_holds (Some first) failed new_failed (Ok n) pieces new_pieces piece s a counted =
    let k = a.2 in
    let now : (before line : List ℕ) → held ≡ Some before → Some first ≡ Some line → new_holds ≡ Some (before ++ lines_of line new_pieces) =
    λ before line is asked.
    (let same = same_Some first line asked in
    let old = s.lines before first is refl a.1 in
    grown holds new_holds before (lines_of first pieces) (opening first pieces ++ json_of k.entries) old k.lines
    ∙ ap (λ (l : List ℕ). Some (before ++ l)) (sym (lines_more first pieces k.entries) ∙ ap (λ (ps : List (List Entry)). lines_of first ps) (sym k.added)
    ∙ ap (λ (f : List ℕ). lines_of f new_pieces) same)) in
    record {
      each = subst (λ (ps : List (List Entry)). ∥ AllByRecursion (IsPiece printed) ps ∥₁) (sym k.added)
          (∥∥₁_map s.each (λ all. all_both (IsPiece printed) pieces (k.entries ∷ []) all (k.is_piece, tt)));
      lines = λ before line is asked none. now before line is asked;
      front = λ before line is asked. ∣ ([], 0, tt, now before line is asked ∙ ap (λ (l : List ℕ). Some (before ++ l)) (sym (append-nil (lines_of line new_pieces)))) ∣₁;
    }
shown_on printed held holds new_holds (Some first) zero new_failed (Err e) pieces new_pieces piece s a counted =
    let k = a.0 in
    record {
      each = subst (λ (ps : List (List Entry)). ∥ AllByRecursion (IsPiece printed) ps ∥₁) (sym k.kept) s.each;
      lines = λ before line is asked none. absurd (not_none zero (sym none ∙ counted));
      front = λ before line is asked.
          (let old = s.lines before line is asked refl in
          subst (λ (ps : List (List Entry)). ∥ GotMore printed line ps before new_holds ∥₁) (sym k.kept) ∣ (
            k.entries,
            k.front.0,
            k.each,
            subst (λ (f : List ℕ). new_holds ≡ Some (before ++ (lines_of line pieces ++ take k.front.0 (opening f pieces ++ json_of k.entries)))) (same_Some first line asked)
                (grown holds new_holds before (lines_of line pieces) (take k.front.0 (opening first pieces ++ json_of k.entries)) old k.front.1),
          ) ∣₁);
    }
shown_on printed held holds new_holds (Some first) (suc failed) new_failed (Err e) pieces new_pieces piece s a counted =
    let k = a.0 in
    record {
      each = subst (λ (ps : List (List Entry)). ∥ AllByRecursion (IsPiece printed) ps ∥₁) (sym k.kept) s.each;
      lines = λ before line is asked none. absurd (not_none (suc failed) (sym none ∙ counted));
      front = λ before line is asked.
          (subst (λ (ps : List (List Entry)). ∥ GotMore printed line ps before new_holds ∥₁) (sym k.kept)
          (∥∥₁_map (s.front before line is asked) (λ (w : GotMore printed line pieces before holds). (w.0, w.1, w.2, same_holds holds new_holds _ w.3 (a.1 (λ z. omega (arith, z)))))));
    }
