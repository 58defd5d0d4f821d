use Rattle.std.proofs.Common.{◌≡◌, ◌≢◌, ◌∙◌, Bor, List, ℕ, Some, None, ap, option_map, rules, sym}
use Rattle.clap.specs.Words.{first_of, found_of, rows_of}
use Rattle.clap.proofs.WalkLemmas.{first_value-rows}
use Rattle.crp_words.specs.Words.{plain_name}
use Rattle.crp_words.proofs.given.one_file.Goals as goal

pub returns-in_default-clause-none : goal.returns-in_default-clause-none
returns-in_default-clause-none c =
    let missing : first_of c.args.name.now (rows_of (found_of c.args.matches.now)) ≡ None =
    sym (first_value-rows (found_of c.args.matches.now) c.args.name.now) ∙ sym c.get_str.ensures ∙ ap (option_map (λ (s : Bor (List ℕ)). s.now)) c.in_default.is in
    λ one. let e : Some one.name ≡ None = sym one.has ∙ missing in cc

pub returns-in_default-get_str-clause-none : goal.returns-in_default-get_str-clause-none
returns-in_default-get_str-clause-none c =
    let missing : first_of c.args.other.now (rows_of (found_of c.args.matches.now)) ≡ None =
    sym (first_value-rows (found_of c.args.matches.now) c.args.other.now) ∙ sym c.get_str-2.ensures ∙ ap (option_map (λ (s : Bor (List ℕ)). s.now)) c.in_default-get_str.is in
    λ one. let e : Some one.other ≡ None = sym one.has_other ∙ missing in cc

pub returns-then-eq-clause-some : goal.returns-then-eq-clause-some
returns-then-eq-clause-some c =
    let same : c.plain_name.result.now ≡ c.plain_name-2.result.now = search rules in
    record {
      name = c.in-Some.first.now;
      other = c.in-Some-get_str.second.now;
      has = sym (first_value-rows (found_of c.args.matches.now) c.args.name.now) ∙ sym c.get_str.ensures ∙ ap (option_map (λ (s : Bor (List ℕ)). s.now)) c.in-Some.is;
      has_other = sym (first_value-rows (found_of c.args.matches.now) c.args.other.now) ∙ sym c.get_str-2.ensures ∙ ap (option_map (λ (s : Bor (List ℕ)). s.now)) c.in-Some-get_str.is;
      same = sym c.plain_name.ensures ∙ same ∙ c.plain_name-2.ensures;
    }

pub returns-else-eq-clause-none : goal.returns-else-eq-clause-none
returns-else-eq-clause-none c =
    let apart : c.plain_name.result.now ≢ c.plain_name-2.result.now = search rules in
    let first : first_of c.args.name.now (rows_of (found_of c.args.matches.now)) ≡ Some c.in-Some.first.now =
    sym (first_value-rows (found_of c.args.matches.now) c.args.name.now) ∙ sym c.get_str.ensures ∙ ap (option_map (λ (s : Bor (List ℕ)). s.now)) c.in-Some.is in
    let second : first_of c.args.other.now (rows_of (found_of c.args.matches.now)) ≡ Some c.in-Some-get_str.second.now =
    sym (first_value-rows (found_of c.args.matches.now) c.args.other.now) ∙ sym c.get_str-2.ensures ∙ ap (option_map (λ (s : Bor (List ℕ)). s.now)) c.in-Some-get_str.is in
    λ one.
    let some : Some c.in-Some.first.now ≡ Some one.name = sym first ∙ one.has in
    let some_other : Some c.in-Some-get_str.second.now ≡ Some one.other = sym second ∙ one.has_other in
    let name : c.in-Some.first.now ≡ one.name = cc in
    let other : c.in-Some-get_str.second.now ≡ one.other = cc in
    apart (c.plain_name.ensures ∙ ap plain_name name ∙ one.same ∙ ap plain_name (sym other) ∙ sym c.plain_name-2.ensures)
