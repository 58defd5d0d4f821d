use Rattle.std.proofs.lemmas.Result.{err_from_is_err_and}
use Rattle.clap.specs.Words.{found_of, rows_of}
use Rattle.crp_words.proofs.CheckLacking.{no_check, no_check_file}
use Rattle.crp_words.proofs.words.check_of.Goals as goal

pub returns-in_err-workers-clause-err : goal.returns-in_err-workers-clause-err
returns-in_err-workers-clause-err c =
    let p = err_from_is_err_and c.from_residual.result c.from_residual.ensures.1 in
    rw (p.1, p.2) (no_check (rows_of (found_of c.args.matches.now)) c.in_err-workers.field-0.0 c.in_err-workers.ensures.err)

pub returns-in_err-file-clause-err : goal.returns-in_err-file-clause-err
returns-in_err-file-clause-err c =
    let p = err_from_is_err_and c.from_residual-in_err-file.result c.from_residual-in_err-file.ensures.1 in
    rw (p.1, p.2) (no_check_file (rows_of (found_of c.args.matches.now)) c.in_ok-workers.workers c.in_err-file.field-0.0 c.in_ok-workers.ensures.ok c.in_err-file.ensures.err)
