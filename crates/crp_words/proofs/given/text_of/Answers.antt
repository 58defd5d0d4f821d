use Rattle.std.proofs.Common.{◌≡◌, ◌∙◌, Bor, ℕ, List, Some, None, ap, sym, option_map}
use Rattle.clap.specs.Words.{first_of, found_of, rows_of}
use Rattle.clap.proofs.WalkLemmas.{first_value-rows}
use Rattle.crp_words.specs.Words.{HasText, NoFault}
use Rattle.crp_words.proofs.Lacking.{lacks}
use Rattle.crp_words.proofs.given.text_of.Goals as goal

pub returns-in-Some-clause-ok : goal.returns-in-Some-clause-ok
returns-in-Some-clause-ok c =
    sym (first_value-rows (found_of c.args.matches.now) c.args.name.now) ∙ sym c.get_str.ensures ∙ ap (option_map (λ (s : Bor (List ℕ)). s.now)) c.in-Some.is

pub returns-in-None-clause-err : goal.returns-in-None-clause-err
returns-in-None-clause-err c =
    let missing : first_of c.args.name.now (rows_of (found_of c.args.matches.now)) ≡ None =
    sym (first_value-rows (found_of c.args.matches.now) c.args.name.now) ∙ sym c.get_str.ensures ∙ ap (option_map (λ (s : Bor (List ℕ)). s.now)) c.in-None.is in
    lacks (HasText c.args.name.now (rows_of (found_of c.args.matches.now))) NoFault c.wrong.result c.wrong.ensures
    (λ text has. let e : Some text ≡ None = sym has ∙ missing in cc) (λ f at. at)
