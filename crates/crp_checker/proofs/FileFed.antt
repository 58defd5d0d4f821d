-- A file of certificates that comes in pieces.
use Rattle.std.proofs.Common.{◌≡◌, ◌≢◌, ◌↔◌, Bool, true, false, ℕ, ◌+◌, ◌⊎◌, inl, inr, List, [], ◌∷◌, ◌++◌, length, take, drop, None, refl, sym, ap, ◌∙◌, subst, arith, append_assoc}
use Rattle.std.specs.List.{AllByRecursion}
use Rattle.std.proofs.lemmas.List.{append-nil, take-append-drop}
use Rattle.std.proofs.lemmas.Grind.{flat_map-append}
use Rattle.crp_plan.specs.BayNames.{YardBay}
use Rattle.crp_cert.proofs.Joined.{all_both}
use Rattle.crp_checker.specs.declared.verdict.Verdict.{Verdict}
use Rattle.crp_checker.specs.declared.refused.Refused.{Refused}
use Rattle.crp_checker.specs.declared.watch.Watch.{Watch}
use Rattle.crp_checker.specs.Shown.{TextShowsFor}
use Rattle.crp_checker.specs.Refusals.{IsRefusal}
use Rattle.crp_checker.specs.Files.{IsEnded, HasNoEndLine, joined_lines, BeginsWithTexts, ShowEach, FileShows, IsFileRefusal}
use Rattle.crp_checker.specs.Watches.{IsUnended}
use Rattle.crp_checker.specs.FedFiles.{IsEndedFront, HasReadFile}
use Rattle.crp_checker.specs.declared.file_checker.FileChecker.{FileChecker}
use Rattle.crp_checker.specs.declared.refused.Refused.TheVariants.{Memory}
use Rattle.crp_checker.proofs.Cuts.{stands_first, texts_more, shown_more, as_many}

-- a list without elements
pub no_elements : (xs : List ℕ) → length xs ≡ 0 → xs ≡ []
no_elements [] e = refl
no_elements (x ∷ xs) e = absurd (omega arith)

-- more bytes
pub front_on : (file : List ℕ) (verdicts : List (YardBay × Verdict)) (rest more : List ℕ) → IsEndedFront file verdicts rest → IsEndedFront (file ++ more) verdicts (rest ++ more)
front_on file verdicts rest more front = record {
  texts = front.texts;
  ended = front.ended;
  is = ap (λ l. l ++ more) front.is ∙ append_assoc (joined_lines front.texts) rest more;
  shown = front.shown;
}

-- one certificate more
pub front_more : (file : List ℕ) (verdicts : List (YardBay × Verdict)) (text : List ℕ) (bay : YardBay) (verdict : Verdict) → IsEndedFront file verdicts text → IsEnded text → TextShowsFor text bay verdict →
    IsEndedFront file (verdicts ++ (bay, verdict) ∷ []) []
front_more file verdicts text bay verdict front ended shows = record {
  texts = front.texts ++ text ∷ [];
  ended = all_both IsEnded front.texts (text ∷ []) front.ended (ended, tt);
  is = front.is ∙ ap (λ l. joined_lines front.texts ++ l) (sym (append-nil text)) ∙ sym (flat_map-append (λ line. line) front.texts (text ∷ [])) ∙ sym (append-nil (joined_lines (front.texts ++ text ∷ [])));
  shown = shown_more front.texts verdicts text (bay, verdict) front.shown shows;
}

-- the same certificates, and then others
pub shown_both : (texts others : List (List ℕ)) (verdicts more : List (YardBay × Verdict)) → ShowEach texts verdicts → ShowEach others more → ShowEach (texts ++ others) (verdicts ++ more)
shown_both [] others [] more s t = t
shown_both [] others (v ∷ verdicts) more s t = absurd s
shown_both (text ∷ texts) others [] more s t = absurd s
shown_both (text ∷ texts) others (v ∷ verdicts) more s t = (s.0, shown_both texts others verdicts more s.1 t)

pub front_both : (before file : List ℕ) (verdicts more : List (YardBay × Verdict)) (rest : List ℕ) → IsEndedFront before verdicts [] → IsEndedFront file more rest →
    IsEndedFront (before ++ file) (verdicts ++ more) rest
front_both before file verdicts more rest first front = record {
  texts = first.texts ++ front.texts;
  ended = all_both IsEnded first.texts front.texts first.ended front.ended;
  is = ap (λ l. l ++ file) (first.is ∙ append-nil (joined_lines first.texts)) ∙ ap (λ l. joined_lines first.texts ++ l) front.is ∙ sym (append_assoc (joined_lines first.texts) (joined_lines front.texts) rest)
      ∙ ap (λ l. l ++ rest) (sym (flat_map-append (λ line. line) first.texts front.texts));
  shown = shown_both first.texts front.texts verdicts more first.shown front.shown;
}

-- a checker has read what stands behind certificates that have ended: it stands as one that has read them too
pub read_behind : (before file : List ℕ) (verdicts more : List (YardBay × Verdict)) (checker : FileChecker) → IsEndedFront before verdicts [] → HasReadFile file more checker →
    HasReadFile (before ++ file) (verdicts ++ more) checker
read_behind before file verdicts more checker first at = record {
  text = at.text;
  front = front_both before file verdicts more at.text first at.front;
  read = at.read;
  unended = at.unended;
  none_begun = at.none_begun;
  some_begun = at.some_begun;
  none_refused = at.none_refused;
}

-- a text has begun exactly where it has a byte
pub begun_exactly : (begun : Bool) (text : List ℕ) → (begun ≡ false → text ≡ []) → (begun ≡ true → text ≢ []) → (begun ≡ false) ↔ (text ≡ [])
begun_exactly false text none some = (none, λ e. refl)
begun_exactly true text none some = (none, λ e. absurd (some refl e))

-- the file begins with the texts
begins_from : (texts : List (List ℕ)) (file rest : List ℕ) → AllByRecursion IsEnded texts → file ≡ joined_lines texts ++ rest → BeginsWithTexts file texts rest
begins_from [] file rest ended is = is
begins_from (text ∷ texts) file rest ended is =
    (joined_lines texts ++ rest, is ∙ append_assoc text (joined_lines texts) rest, inl ended.0, begins_from texts (joined_lines texts ++ rest) rest ended.1 refl)

pub begins : (file : List ℕ) (verdicts : List (YardBay × Verdict)) (rest : List ℕ) → (front : IsEndedFront file verdicts rest) → BeginsWithTexts file front.texts rest
begins file verdicts rest front = begins_from front.texts file rest front.ended front.is

-- bytes that have not ended are those of one more certificate, if there are some
pub open_text : (text : List ℕ) (watch : Watch) → text ≢ [] → IsUnended text watch → HasNoEndLine text
open_text text watch some un = record { lines = un.lines; rest = un.begun; others = un.others; part_line = un.open_line; is = un.is; some_bytes = some }

-- one more is refused
pub refused_next : (file : List ℕ) (verdicts : List (YardBay × Verdict)) (rest text after : List ℕ) (r : Refused) → (front : IsEndedFront file verdicts rest) → rest ≡ text ++ after →
    IsEnded text ⊎ (HasNoEndLine text × (after ≡ [])) → (r ≡ Memory) ⊎ IsRefusal None text r → IsFileRefusal file verdicts (length verdicts + 1) r
refused_next file verdicts rest text after r front is ended why = record {
  texts = front.texts;
  text = text;
  after = after;
  begins = texts_more file front.texts rest text after (begins file verdicts rest front) is ended;
  shown = front.shown;
  number_is = ap (λ n. n + 1) (sym (as_many front.texts verdicts front.shown));
  why = why;
}

-- where there are more bytes memory may have run out at one more
pub memory_next : (file : List ℕ) (verdicts : List (YardBay × Verdict)) (rest : List ℕ) → IsEndedFront file verdicts rest → rest ≢ [] → IsFileRefusal file verdicts (length verdicts + 1) Memory
memory_next file verdicts rest front some = let first = stands_first rest some in refused_next file verdicts rest first.text first.after Memory front first.is first.ended (inl refl)

-- so it may have at the last of those that are shown
pub memory_last : (file : List ℕ) (verdicts : List (YardBay × Verdict)) (last : YardBay × Verdict) → FileShows file (verdicts ++ last ∷ []) → IsFileRefusal file verdicts (length verdicts + 1) Memory
memory_last file verdicts last shows =
    let cut = split shows.0 verdicts shows.2 in
    record {
      texts = cut.0;
      text = cut.1;
      after = [];
      begins = subst (λ l. BeginsWithTexts file l []) cut.2 shows.1;
      shown = cut.3;
      number_is = ap (λ n. n + 1) (sym (as_many cut.0 verdicts cut.3));
      why = inl refl;
    }
  where
    split : (texts : List (List ℕ)) (verdicts : List (YardBay × Verdict)) → ShowEach texts (verdicts ++ last ∷ []) →
        (front : List (List ℕ)) × (text : List ℕ) × (texts ≡ front ++ text ∷ []) × ShowEach front verdicts
    split [] [] s = absurd s
    split [] (v ∷ verdicts) s = absurd s
    split (text ∷ []) [] s = ([], text, refl, tt)
    split (text ∷ other ∷ texts) [] s = absurd s.1
    split (text ∷ texts) (v ∷ verdicts) s = let rest = split texts verdicts s.1 in (text ∷ rest.0, rest.1, ap (λ l. text ∷ l) rest.2, (s.0, rest.3))

-- one more is the last
pub shown_last : (file : List ℕ) (verdicts : List (YardBay × Verdict)) (text : List ℕ) (last : YardBay × Verdict) → IsEndedFront file verdicts text → HasNoEndLine text → TextShowsFor text last.0 last.1 → FileShows file (verdicts ++ last ∷ [])
shown_last file verdicts text last front open_text shows = (
  front.texts ++ text ∷ [],
  texts_more file front.texts text text [] (begins file verdicts text front) (sym (append-nil text)) (inr (open_text, refl)),
  shown_more front.texts verdicts text last front.shown shows,
)

-- a piece, cut in two
pub cut_piece : (text piece more : List ℕ) (n : ℕ) → text ++ (piece ++ more) ≡ (text ++ take n piece) ++ (drop n piece ++ more)
cut_piece text piece more n =
    ap (λ l. text ++ (l ++ more)) (sym (take-append-drop n piece)) ∙ ap (λ l. text ++ l) (append_assoc (take n piece) (drop n piece) more) ∙ sym (append_assoc text (take n piece) (drop n piece ++ more))
