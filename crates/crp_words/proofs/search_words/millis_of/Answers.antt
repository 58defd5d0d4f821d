use Rattle.std.proofs.Common.{◌≡◌, ◌∙◌, Bor, List, ℕ, Some, ap, option_map, refl, sym}
use Rattle.clap.specs.Words.{first_value, found_of}
use Rattle.clap.proofs.WalkLemmas.{first_value-rows}
use Rattle.crp_words.proofs.TimeLacking.{found_seconds, no_seconds_found, seconds_beyond}
use Rattle.crp_words.proofs.search_words.millis_of.Goals as goal

pub returns-in_default-clause-ok : goal.returns-in_default-clause-ok
returns-in_default-clause-ok c =
    sym (first_value-rows (found_of c.args.matches.now) c.args.name.now) ∙ sym c.get_str.ensures ∙ ap (option_map (λ (s : Bor (List ℕ)). s.now)) c.in_default.is

pub returns-in-Some-millis_in-clause-ok : goal.returns-in-Some-millis_in-clause-ok
returns-in-Some-millis_in-clause-ok c =
    let has : first_value (found_of c.args.matches.now) c.args.name.now ≡ Some c.in-Some.text.now = sym c.get_str.ensures ∙ ap (option_map (λ (s : Bor (List ℕ)). s.now)) c.in-Some.is in
    found_seconds (found_of c.args.matches.now) c.args.name.now c.in-Some.text.now c.in-Some-millis_in.millis has c.in-Some-millis_in.ensures.some

pub returns-in-None-clause-err : goal.returns-in-None-clause-err
returns-in-None-clause-err c =
    let has : first_value (found_of c.args.matches.now) c.args.name.now ≡ Some c.in-Some.text.now = sym c.get_str.ensures ∙ ap (option_map (λ (s : Bor (List ℕ)). s.now)) c.in-Some.is in (
      no_seconds_found (found_of c.args.matches.now) c.args.name.now c.in-Some.text.now has c.in-None.ensures.none,
      (refl, seconds_beyond (found_of c.args.matches.now) c.args.name.now c.in-Some.text.now has c.in-None.ensures.none),
    )
