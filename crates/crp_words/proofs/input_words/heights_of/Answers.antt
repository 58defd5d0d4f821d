use Rattle.std.proofs.Common.{◌≡◌, ◌∙◌, Bor, List, ℕ, Some, ap, codes, option_map, refl, sym}
use Rattle.clap.specs.Words.{first_value, found_of}
use Rattle.clap.proofs.WalkLemmas.{first_value-rows}
use Rattle.crp_sizes.specs.Heights.{IsHeightsText}
use Rattle.crp_words.proofs.HeightSteps.{found_heights, none_found, found_beyond}
use Rattle.crp_words.proofs.input_words.heights_of.Goals as goal

pub returns-in_default-clause-ok : goal.returns-in_default-clause-ok
returns-in_default-clause-ok c =
    sym (first_value-rows (found_of c.args.matches.now) (codes "heights")) ∙ sym c.get_str.ensures ∙ ap (option_map (λ (s : Bor (List ℕ)). s.now)) c.in_default.is

pub returns-in-Some-heights_in-clause-ok : goal.returns-in-Some-heights_in-clause-ok
returns-in-Some-heights_in-clause-ok c =
    let has : first_value (found_of c.args.matches.now) (codes "heights") ≡ Some c.in-Some.text.now = sym c.get_str.ensures ∙ ap (option_map (λ (s : Bor (List ℕ)). s.now)) c.in-Some.is in
    found_heights (found_of c.args.matches.now) c.in-Some.text.now c.in-Some-heights_in.heights.items has (rw c.as_bytes.ensures.value at c.in-Some-heights_in.ensures.some)

pub returns-in-None-clause-err : goal.returns-in-None-clause-err
returns-in-None-clause-err c =
    let has : first_value (found_of c.args.matches.now) (codes "heights") ≡ Some c.in-Some.text.now = sym c.get_str.ensures ∙ ap (option_map (λ (s : Bor (List ℕ)). s.now)) c.in-Some.is in
    let none : (heights : List ℕ) → IsHeightsText heights c.in-Some.text.now → ⊥ = rw c.as_bytes.ensures.value at c.in-None.ensures.none in
    (none_found (found_of c.args.matches.now) c.in-Some.text.now has none, (refl, found_beyond (found_of c.args.matches.now) c.in-Some.text.now has none))
