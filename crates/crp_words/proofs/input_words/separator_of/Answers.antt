use Rattle.std.proofs.Common.{◌≡◌, ◌∙◌, None, ap, refl, sym}
use Rattle.std.proofs.lemmas.Result.{err_from_is_err_and}
use Rattle.clap.specs.Words.{found_of, rows_of}
use Rattle.crp_words.specs.Words.{separator_in}
use Rattle.crp_words.proofs.Lacking.{no_separator_in, no_separator_text}
use Rattle.crp_words.proofs.input_words.separator_of.Goals as goal

pub returns-in_err-text-clause-err : goal.returns-in_err-text-clause-err
returns-in_err-text-clause-err c =
    let p = err_from_is_err_and c.from_residual.result c.from_residual.ensures.1 in
    rw (p.1, p.2) (no_separator_text (rows_of (found_of c.args.matches.now)) c.in_err-text.field-0.0 c.in_err-text.ensures.err)

pub returns-in-Some-clause-ok : goal.returns-in-Some-clause-ok
returns-in-Some-clause-ok c =
    (c.in_ok-text.text.now, c.in_ok-text.ensures.ok, ap separator_in (sym c.as_bytes.ensures.value) ∙ sym c.separator_in.ensures ∙ c.in-Some.is)

pub returns-in-None-clause-err : goal.returns-in-None-clause-err
returns-in-None-clause-err c =
    let none : separator_in c.in_ok-text.text.now ≡ None = ap separator_in (sym c.as_bytes.ensures.value) ∙ sym c.separator_in.ensures ∙ c.in-None.is in
    no_separator_in (rows_of (found_of c.args.matches.now)) c.in_ok-text.text.now c.wrong.result c.in_ok-text.ensures.ok none c.wrong.ensures
