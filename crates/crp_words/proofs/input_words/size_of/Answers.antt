use Rattle.std.proofs.lemmas.Result.{err_from_is_err_and}
use Rattle.clap.specs.Words.{found_of, rows_of}
use Rattle.crp_words.proofs.Lacking.{no_rows, no_tiers, no_heights}
use Rattle.crp_words.proofs.input_words.size_of.Goals as goal

pub returns-in_err-rows-clause-err : goal.returns-in_err-rows-clause-err
returns-in_err-rows-clause-err c =
    let p = err_from_is_err_and c.from_residual.result c.from_residual.ensures.1 in
    rw (p.1, p.2) (no_rows (rows_of (found_of c.args.matches.now)) c.in_err-rows.field-0.0 c.in_err-rows.ensures.err)

pub returns-in_err-tiers-clause-err : goal.returns-in_err-tiers-clause-err
returns-in_err-tiers-clause-err c =
    let p = err_from_is_err_and c.from_residual-in_err-tiers.result c.from_residual-in_err-tiers.ensures.1 in
    rw (p.1, p.2) (no_tiers (rows_of (found_of c.args.matches.now)) c.in_ok-rows.rows c.in_err-tiers.field-0.0 c.in_ok-rows.ensures.ok c.in_err-tiers.ensures.err)

pub returns-in_err-heights-clause-err : goal.returns-in_err-heights-clause-err
returns-in_err-heights-clause-err c =
    let p = err_from_is_err_and c.from_residual-in_err-heights.result c.from_residual-in_err-heights.ensures.1 in
    rw (p.1, p.2) (no_heights (rows_of (found_of c.args.matches.now)) c.in_ok-rows.rows c.in_ok-tiers.tiers c.in_err-heights.field-0.0 c.in_ok-rows.ensures.ok c.in_ok-tiers.ensures.ok c.in_err-heights.ensures.err)
