use Rattle.std.proofs.Common.{◌≡◌, ◌∙◌, Bor, List, ℕ, Some, ap, codes, option_map, sym}
use Rattle.std.proofs.lemmas.Result.{err_from_is_err_and}
use Rattle.clap.specs.Words.{first_of, found_of, rows_of}
use Rattle.clap.proofs.WalkLemmas.{first_value-rows}
use Rattle.crp_words.proofs.FollowLacking.{no_after}
use Rattle.crp_words.proofs.follow_words.after_of.Goals as goal

pub returns-in_default-clause-ok : goal.returns-in_default-clause-ok
returns-in_default-clause-ok c =
    sym (first_value-rows (found_of c.args.matches.now) (codes "after")) ∙ sym c.get_str.ensures ∙ ap (option_map (λ (s : Bor (List ℕ)). s.now)) c.in_default.is

pub returns-in_err-loaded-clause-err : goal.returns-in_err-loaded-clause-err
returns-in_err-loaded-clause-err c =
    let found : first_of (codes "after") (rows_of (found_of c.args.matches.now)) ≡ Some c.in-Some.name.now =
    sym (first_value-rows (found_of c.args.matches.now) (codes "after")) ∙ sym c.get_str.ensures ∙ ap (option_map (λ (s : Bor (List ℕ)). s.now)) c.in-Some.is in
    let p = err_from_is_err_and c.from_residual.result c.from_residual.ensures.1 in
    rw (p.1, p.2) (no_after (rows_of (found_of c.args.matches.now)) c.in-Some.name.now c.in_err-loaded.field-0.0 found c.in_err-loaded.ensures.err)

pub returns-clause-ok : goal.returns-clause-ok
returns-clause-ok c = (
  sym (first_value-rows (found_of c.args.matches.now) (codes "after")) ∙ sym c.get_str.ensures ∙ ap (option_map (λ (s : Bor (List ℕ)). s.now)) c.in-Some.is,
  c.in_ok-loaded.ensures.ok,
)
