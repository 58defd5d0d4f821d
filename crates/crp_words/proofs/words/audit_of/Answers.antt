use Rattle.std.proofs.Common.{◌∙◌, codes, refl, sym}
use Rattle.std.proofs.lemmas.Bool.{false≢true}
use Rattle.std.proofs.lemmas.Result.{err_from_is_err_and}
use Rattle.clap.specs.Words.{found_of, rows_of}
use Rattle.clap.proofs.WalkLemmas.{first_value-rows}
use Rattle.crp_words.specs.Words.{IsSizedTwice}
use Rattle.crp_words.proofs.Lacking.{no_audit, no_audit_separator, audit_sized_twice}
use Rattle.crp_words.proofs.words.audit_of.Goals as goal

pub returns-then-is_sized_twice-clause-err : goal.returns-then-is_sized_twice-clause-err
returns-then-is_sized_twice-clause-err c =
    audit_sized_twice (rows_of (found_of c.args.matches.now)) c.wrong.result (c.is_sized_twice.ensures.0 c.if-is_sized_twice.true) c.wrong.ensures

pub returns-in_err-settings-clause-err : goal.returns-in_err-settings-clause-err
returns-in_err-settings-clause-err c =
    let once : ¬ IsSizedTwice (rows_of (found_of c.args.matches.now)) = λ twice. false≢true (sym c.if-is_sized_twice.false ∙ c.is_sized_twice.ensures.1 twice) in
    let p = err_from_is_err_and c.from_residual.result c.from_residual.ensures.1 in
    rw (p.1, p.2) (no_audit (rows_of (found_of c.args.matches.now)) c.in_err-settings.field-0.0 once c.in_err-settings.ensures.err)

pub returns-in_err-separator-clause-err : goal.returns-in_err-separator-clause-err
returns-in_err-separator-clause-err c =
    let p = err_from_is_err_and c.from_residual-in_err-separator.result c.from_residual-in_err-separator.ensures.1 in
    rw (p.1, p.2) (no_audit_separator (rows_of (found_of c.args.matches.now)) c.in_ok-settings.settings c.in_err-separator.field-0.0 c.in_ok-settings.ensures.ok c.in_err-separator.ensures.err)

pub returns-clause-ok : goal.returns-clause-ok
returns-clause-ok c = (
  refl,
  (λ twice. false≢true (sym c.if-is_sized_twice.false ∙ c.is_sized_twice.ensures.1 twice)),
  (
    c.in_ok-text_of.ensures.ok,
    c.in_ok-text_of-2.ensures.ok,
    c.in_ok-text_of-3.ensures.ok,
    c.in_ok-text_of-4.ensures.ok,
    sym (first_value-rows (found_of c.args.matches.now) (codes "sizes")) ∙ sym c.get_str.ensures,
    c.is_given.ensures,
    c.in_ok-separator.ensures.ok,
    c.is_json.ensures,
  ),
  c.in_ok-settings.ensures.ok,
)
