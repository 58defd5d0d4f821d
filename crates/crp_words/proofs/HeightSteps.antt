-- Where the text of an option comes from, and which heights it has.
use Rattle.std.proofs.Common.{◌≡◌, ◌↔◌, ◌∙◌, Bool, true, false, Bor, IsTrue, ℕ, List, refl, sym, ap, subst}
use Rattle.std.proofs.lemmas.Bool.{false≢true}
use Rattle.std.specs.Prelude.{codes, option_map, option_and_then, Option, Some, None, find, is_some, not}
use Rattle.clap.specs.Words.{Text, Row, rows_of, matched_of, first_of, first_value}
use Rattle.clap.specs.Facts.{Entry}
use Rattle.clap.specs.Walk.{row_of}
use Rattle.std.specs.Str.{bytes_eq}
use Rattle.clap.specs.declared.parser.matches.Found.{Found}
use Rattle.clap.specs.declared.parser.matches.MatchedArg.{MatchedArg}
use Rattle.clap.specs.declared.parser.matches.ValueSource.{ValueSource}
use Rattle.clap.specs.declared.parser.matches.ValueSource.TheVariants.{CommandLine}
use Rattle.clap.proofs.WalkLemmas.{find_row, first_value-rows}
use Rattle.crp_sizes.specs.Heights.{IsHeightsText}
use Rattle.crp_words.specs.Words.{value_source_of, AreHeightsBeyond, FindsHeights, IsGivenByWords, MayFindHeights}

-- ---- where the text of an option comes from

pub source_rows : (f : Found) (id : Text) → option_and_then (λ (a : MatchedArg). a.source) (matched_of f id) ≡ value_source_of id (rows_of f)
source_rows f id = go (find (λ (e : Entry). bytes_eq e.0.now id) f.entries.items) ∙ ap (option_and_then (λ (r : Row). r.source)) (sym (find_row f.entries.items id))
  where
    go : (o : Option Entry) → option_and_then (λ (a : MatchedArg). a.source) (option_map (λ e. e.1) o) ≡ option_and_then (λ (r : Row). r.source) (option_map row_of o)
    go None = refl
    go (Some e) = refl

-- so it is known whether the words give the option
pub given : (f : Found) (id : Text) (source : Option ValueSource) → source ≡ option_and_then (λ (a : MatchedArg). a.source) (matched_of f id)
    → source ≡ Some CommandLine → IsGivenByWords id (rows_of f)
given f id source is by = sym (source_rows f id) ∙ sym is ∙ by

pub not_given : (f : Found) (id : Text) (source : Option ValueSource) → source ≡ option_and_then (λ (a : MatchedArg). a.source) (matched_of f id)
    → (source ≡ Some CommandLine → ⊥) → IsGivenByWords id (rows_of f) → ⊥
not_given f id source is other by = other (is ∙ source_rows f id ∙ by)

-- and whether there is a text
pub missing : (f : Found) (id : Text) (text : Option (Bor Text)) (none : Bool) → option_map (λ (t : Bor Text). t.now) text ≡ first_value f id → is_some text ≡ not none
    → IsTrue none ↔ (first_of id (rows_of f) ≡ None)
missing f id None true has is = (λ yes. sym (first_value-rows f id) ∙ sym has, λ absent. refl)
missing f id None false has is = absurd (false≢true is)
missing f id (Some t) true has is = absurd (false≢true (sym is))
missing f id (Some t) false has is = (λ yes. absurd (false≢true yes), λ absent. let e : Some t.now ≡ None = has ∙ first_value-rows f id ∙ absent in absurd (cc))

-- the heights of a text are those that were found
pub found_heights : (f : Found) (text : Text) (heights : List ℕ) → first_value f (codes "heights") ≡ Some text → IsHeightsText heights text
    → FindsHeights (rows_of f) heights
found_heights f text heights has is = (text, sym (first_value-rows f (codes "heights")) ∙ has, is)

-- and where it has none, none are found
pub none_found : (f : Found) (text : Text) → first_value f (codes "heights") ≡ Some text → ((heights : List ℕ) → IsHeightsText heights text → ⊥)
    → (heights : Option (List ℕ)) → MayFindHeights (rows_of f) heights → ⊥
none_found f text has none None absent =
    let e : Some text ≡ None = sym has ∙ first_value-rows f (codes "heights") ∙ absent in cc
none_found f text has none (Some heights) (other, found, is) =
    let e : Some text ≡ Some other = sym has ∙ first_value-rows f (codes "heights") ∙ found in
    let same : other ≡ text = cc in
    none heights (subst (IsHeightsText heights) same is)

pub found_beyond : (f : Found) (text : Text) → first_value f (codes "heights") ≡ Some text → ((heights : List ℕ) → IsHeightsText heights text → ⊥)
    → AreHeightsBeyond (rows_of f)
found_beyond f text has none = (text, sym (first_value-rows f (codes "heights")) ∙ has, none)
