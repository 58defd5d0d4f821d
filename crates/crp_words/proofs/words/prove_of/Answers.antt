use Rattle.std.proofs.Common.{refl}
use Rattle.std.proofs.lemmas.Result.{err_from_is_err_and}
use Rattle.clap.specs.Words.{found_of, rows_of}
use Rattle.crp_words.proofs.SolveLacking.{no_prove, no_prove_time, no_prove_file, with_limits}
use Rattle.crp_words.proofs.words.prove_of.Goals as goal

pub returns-in_err-search-clause-err : goal.returns-in_err-search-clause-err
returns-in_err-search-clause-err c =
    let p = err_from_is_err_and c.from_residual.result c.from_residual.ensures.1 in
    rw (p.1, p.2) (no_prove (rows_of (found_of c.args.matches.now)) c.in_err-search.field-0.0 c.in_err-search.ensures.err)

pub returns-in_err-time-clause-err : goal.returns-in_err-time-clause-err
returns-in_err-time-clause-err c =
    let p = err_from_is_err_and c.from_residual-in_err-time.result c.from_residual-in_err-time.ensures.1 in
    rw (p.1, p.2) (no_prove_time (rows_of (found_of c.args.matches.now)) c.in_ok-search.search c.in_err-time.field-0.0 c.in_ok-search.ensures.ok c.in_err-time.ensures.err)

pub returns-in_err-file-clause-err : goal.returns-in_err-file-clause-err
returns-in_err-file-clause-err c =
    let p = err_from_is_err_and c.from_residual-in_err-file.result c.from_residual-in_err-file.ensures.1 in
    rw (p.1, p.2) (no_prove_file (rows_of (found_of c.args.matches.now)) c.in_ok-search.search c.in_ok-time.time c.in_err-file.field-0.0 c.in_ok-search.ensures.ok c.in_ok-time.ensures.ok c.in_err-file.ensures.err)

pub returns-clause-ok : goal.returns-clause-ok
returns-clause-ok c =
    let rows = rows_of (found_of c.args.matches.now) in
    let searched = with_limits rows c.in_ok-search.search c.with_time.result c.in_ok-time.time c.in_ok-search.ensures.ok c.in_ok-time.ensures.ok c.with_time.ensures.value in
    ((refl, searched), c.in_ok-file.ensures.ok, c.stop_of.ensures)
