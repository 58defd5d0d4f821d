use Rattle.std.proofs.Common.{◌≡◌, ◌≢◌, ◌∙◌, Bor, List, ℕ, Some, None, ap, codes, option_map, refl, rules, sym}
use Rattle.std.proofs.lemmas.Bool.{false≢true}
use Rattle.clap.specs.Words.{first_of, found_of, rows_of}
use Rattle.clap.proofs.WalkLemmas.{first_value-rows}
use Rattle.crp_words.proofs.compare_words.is_input.Goals as goal

pub returns-in_default : goal.returns-in_default
returns-in_default c =
    let missing : first_of c.args.name.now (rows_of (found_of c.args.matches.now)) ≡ None =
    sym (first_value-rows (found_of c.args.matches.now) c.args.name.now) ∙ sym c.get_str.ensures ∙ ap (option_map (λ (s : Bor (List ℕ)). s.now)) c.in_default.is in
    (λ t. absurd (false≢true t), λ has. (let e : Some (codes "-") ≡ None = sym has ∙ missing in absurd cc))

pub returns-then-eq : goal.returns-then-eq
returns-then-eq c =
    let named : c.in-Some.text.now ≡ codes "-" = search rules in
    let found : first_of c.args.name.now (rows_of (found_of c.args.matches.now)) ≡ Some c.in-Some.text.now =
    sym (first_value-rows (found_of c.args.matches.now) c.args.name.now) ∙ sym c.get_str.ensures ∙ ap (option_map (λ (s : Bor (List ℕ)). s.now)) c.in-Some.is in
    (λ t. found ∙ ap Some named, λ has. refl)

pub returns : goal.returns
returns c =
    let other : c.in-Some.text.now ≢ codes "-" = search rules in
    let found : first_of c.args.name.now (rows_of (found_of c.args.matches.now)) ≡ Some c.in-Some.text.now =
    sym (first_value-rows (found_of c.args.matches.now) c.args.name.now) ∙ sym c.get_str.ensures ∙ ap (option_map (λ (s : Bor (List ℕ)). s.now)) c.in-Some.is in (
      λ t. absurd (false≢true t),
      λ has.
          (let some : Some c.in-Some.text.now ≡ Some (codes "-") = sym found ∙ has in
          let named : c.in-Some.text.now ≡ codes "-" = cc in
          absurd (other named)),
    )
