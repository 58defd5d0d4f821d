use Rattle.std.proofs.Common.{◌∙◌, Option, ap, is_some, sym}
use Rattle.std.proofs.lemmas.Result.{err_from_is_err_and}
use Rattle.clap.specs.Words.{Text, found_of, rows_of}
use Rattle.crp_words.proofs.TimeLacking.{no_bay_limit, no_total_limit, still_some}
use Rattle.crp_words.proofs.search_words.time_of.Goals as goal

pub returns-in_err-bay-clause-err : goal.returns-in_err-bay-clause-err
returns-in_err-bay-clause-err c =
    let p = err_from_is_err_and c.from_residual.result c.from_residual.ensures.1 in
    rw (p.1, p.2) (no_bay_limit (rows_of (found_of c.args.matches.now)) c.in_err-bay.field-0.0 c.in_err-bay.ensures.err)

pub returns-in_err-all-clause-err : goal.returns-in_err-all-clause-err
returns-in_err-all-clause-err c =
    let p = err_from_is_err_and c.from_residual-in_err-all.result c.from_residual-in_err-all.ensures.1 in
    rw (p.1, p.2) (no_total_limit (rows_of (found_of c.args.matches.now)) c.in_ok-bay.bay c.in_err-all.field-0.0 c.in_ok-bay.ensures.ok c.in_err-all.ensures.err)

pub returns-clause-ok : goal.returns-clause-ok
returns-clause-ok c = (
  c.in_ok-bay.ensures.ok,
  c.in_ok-all.ensures.ok,
  c.is_some.ensures ∙ sym (still_some (λ text. text.now) c.stop_of.result) ∙ ap (λ (o : Option Text). is_some o) (sym c.stop_of.ensures),
)
