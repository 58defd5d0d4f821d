-- Cutting a file into the texts of certificates.
use Rattle.std.proofs.Common.{◌≡◌, ◌≢◌, ℕ, ◌⊎◌, inl, inr, ⊎_elim, List, [], ◌∷◌, ◌++◌, length, drop, refl, sym, ap, ◌∙◌, arith, append_assoc, codes, Bool, true, false, nat_eq}
use Rattle.std.specs.List.{AllByRecursion, starts_with}
use Rattle.std.proofs.lemmas.Bool.{cases_eq}
use Rattle.std.proofs.lemmas.Bool.Decides.{Decides-eqb}
use Rattle.std.proofs.lemmas.List.{append-nil}
use Rattle.std.proofs.lemmas.List.Elements.{All-push, All-nil}
use Rattle.std.proofs.lemmas.Grind.{flat_map-append}
use Rattle.std.proofs.lemmas.Slice.Eq.{starts_is}
use Rattle.crp_plan.specs.BayNames.{YardBay}
use Rattle.crp_checker.specs.declared.verdict.Verdict.{Verdict}
use Rattle.crp_checker.specs.Shown.{TextShowsFor}
use Rattle.crp_checker.specs.Files.{IsWithoutEnd, IsLine, BeginsWithEnd, IsOtherLine, joined_lines, IsEnded, HasNoEndLine, BeginsWithTexts, ShowEach}
use Rattle.crp_cert.proofs.Joined.{all_both}

-- the bytes are lines that do not begin with `end `
pub record AreOtherLines (bytes : List ℕ) : Type 0 where
  pub lines : List (List ℕ)
  pub others : AllByRecursion IsOtherLine lines
  pub are : bytes ≡ joined_lines lines

-- a line begins with `end `, or does not
begins_or_not : (line : List ℕ) (r : Bool) → r ≡ starts_with nat_eq line (codes "end ") → BeginsWithEnd line ⊎ (BeginsWithEnd line → ⊥)
begins_or_not line true e = inl (drop 4 line, (starts_is Decides-eqb line (codes "end ") true e).0 refl)
begins_or_not line false e = inr (λ b. let t = (starts_is Decides-eqb line (codes "end ") false e).1 b.0 b.1 in cc)

-- a text that stands first in bytes, and what follows it
pub record StandsFirst (bytes : List ℕ) : Type 0 where
  pub text : List ℕ
  pub after : List ℕ
  pub is : bytes ≡ text ++ after
  pub ended : IsEnded text ⊎ (HasNoEndLine text × (after ≡ []))

-- one does, where there are bytes
pub stands_first : (bytes : List ℕ) → bytes ≢ [] → StandsFirst bytes
stands_first bytes some = go [] [] bytes bytes refl tt (All-nil (λ b. b ≢ 10)) some
  where
    another : (lines : List (List ℕ)) (line rest : List ℕ) → joined_lines (lines ++ line ∷ []) ++ rest ≡ joined_lines lines ++ (line ++ rest)
    another lines line rest =
        ap (λ l. l ++ rest) (flat_map-append (λ line. line) lines (line ∷ []) ∙ ap (λ l. joined_lines lines ++ l) (append-nil line)) ∙ append_assoc (joined_lines lines) line rest

    go : (lines : List (List ℕ)) (begun rest bytes : List ℕ) → bytes ≡ joined_lines lines ++ (begun ++ rest) → AllByRecursion IsOtherLine lines → IsWithoutEnd begun → bytes ≢ [] → StandsFirst bytes
    go lines begun [] bytes is others open_line some = record {
      text = bytes;
      after = [];
      is = sym (append-nil bytes);
      ended = inr (record { lines = lines; rest = begun; others = others; part_line = open_line; is = is ∙ ap (λ l. joined_lines lines ++ l) (append-nil begun); some_bytes = some }, refl);
    }
    go lines begun (b ∷ rest) bytes is others open_line some = ⊎_elim
        (λ lf.
        let line : List ℕ = begun ++ 10 ∷ [] in
        let is_line : IsLine line = record { body = begun; one_line = open_line; is = refl } in
        let split : bytes ≡ joined_lines lines ++ (line ++ rest) =
        is ∙ ap (λ c. joined_lines lines ++ (begun ++ c ∷ rest)) lf ∙ ap (λ l. joined_lines lines ++ l) (sym (append_assoc begun (10 ∷ []) rest)) in
        ⊎_elim
        (λ end. record {
          text = joined_lines lines ++ line;
          after = rest;
          is = split ∙ sym (append_assoc (joined_lines lines) line rest);
          ended = inl (record { lines = lines; last = line; others = others; is_line = is_line; is_end = end; is = refl });
        })
        (λ other. go (lines ++ line ∷ []) [] rest bytes (split ∙ sym (another lines line rest)) (all_both IsOtherLine lines (line ∷ []) others (record { is_line = is_line; other = other }, tt)) (All-nil (λ b. b ≢ 10)) some)
        (begins_or_not line (starts_with nat_eq line (codes "end ")) refl))
        (λ not. go lines (begun ++ b ∷ []) rest bytes (is ∙ ap (λ l. joined_lines lines ++ l) (sym (append_assoc begun (b ∷ []) rest))) others (All-push (λ b. b ≢ 10) begun b open_line not) some)
        (cases_eq b 10)

-- the file goes on by one text
pub texts_more : (file : List ℕ) (texts : List (List ℕ)) (rest text after : List ℕ) → BeginsWithTexts file texts rest → rest ≡ text ++ after → IsEnded text ⊎ (HasNoEndLine text × (after ≡ [])) →
    BeginsWithTexts file (texts ++ text ∷ []) after
texts_more file [] rest text after begins e front = (after, begins ∙ e, front, refl)
texts_more file (first ∷ texts) rest text after begins e front = (begins.0, begins.1, begins.2, texts_more begins.0 texts rest text after begins.3 e front)

-- and shows one verdict more
pub shown_more : (texts : List (List ℕ)) (verdicts : List (YardBay × Verdict)) (text : List ℕ) (parsed : YardBay × Verdict) → ShowEach texts verdicts → TextShowsFor text parsed.0 parsed.1 → ShowEach (texts ++ text ∷ []) (verdicts ++ parsed ∷ [])
shown_more [] [] text parsed s k = (k, tt)
shown_more [] (v ∷ verdicts) text parsed s k = absurd s
shown_more (first ∷ texts) [] text parsed s k = absurd s
shown_more (first ∷ texts) (v ∷ verdicts) text parsed s k = (s.0, shown_more texts verdicts text parsed s.1 k)

-- there are as many verdicts as texts
pub as_many : (texts : List (List ℕ)) (verdicts : List (YardBay × Verdict)) → ShowEach texts verdicts → length texts ≡ length verdicts
as_many [] [] s = refl
as_many [] (v ∷ verdicts) s = absurd s
as_many (first ∷ texts) [] s = absurd s
as_many (first ∷ texts) (v ∷ verdicts) s = let n = as_many texts verdicts s.1 in omega arith
