use Rattle.std.proofs.Common.{◌∙◌, ap}
use Rattle.std.proofs.lemmas.Result.{err_from_is_err_and}
use Rattle.clap.specs.Words.{found_of, rows_of}
use Rattle.crp_solve.specs.Chosen.{Chosen}
use Rattle.crp_words.proofs.Lacking.{have_numbers, no_workers, no_budget, no_split, no_beam, no_thin}
use Rattle.crp_words.proofs.search_words.search_of.Goals as goal

pub returns-in_err-workers-clause-err : goal.returns-in_err-workers-clause-err
returns-in_err-workers-clause-err c =
    let p = err_from_is_err_and c.from_residual.result c.from_residual.ensures.1 in
    rw (p.1, p.2) (no_workers (rows_of (found_of c.args.matches.now)) c.in_err-workers.field-0.0 c.in_err-workers.ensures.err)

pub returns-in_err-budget-clause-err : goal.returns-in_err-budget-clause-err
returns-in_err-budget-clause-err c =
    let p = err_from_is_err_and c.from_residual-in_err-budget.result c.from_residual-in_err-budget.ensures.1 in
    rw (p.1, p.2) (no_budget (rows_of (found_of c.args.matches.now)) c.in_ok-workers.workers c.in_err-budget.field-0.0 c.in_ok-workers.ensures.ok c.in_err-budget.ensures.err)

pub returns-in_err-split-clause-err : goal.returns-in_err-split-clause-err
returns-in_err-split-clause-err c =
    let p = err_from_is_err_and c.from_residual-in_err-split.result c.from_residual-in_err-split.ensures.1 in
    rw (p.1, p.2) (no_split (rows_of (found_of c.args.matches.now)) c.in_ok-workers.workers c.in_ok-budget.budget c.in_err-split.field-0.0 c.in_ok-workers.ensures.ok c.in_ok-budget.ensures.ok c.in_err-split.ensures.err)

pub returns-in_err-beam-clause-err : goal.returns-in_err-beam-clause-err
returns-in_err-beam-clause-err c =
    let p = err_from_is_err_and c.from_residual-in_err-beam.result c.from_residual-in_err-beam.ensures.1 in
    rw (p.1, p.2) (no_beam (rows_of (found_of c.args.matches.now)) c.in_ok-workers.workers c.in_ok-budget.budget c.in_ok-split.split c.in_err-beam.field-0.0 c.in_ok-workers.ensures.ok c.in_ok-budget.ensures.ok c.in_ok-split.ensures.ok c.in_err-beam.ensures.err)

pub returns-in_err-thin-clause-err : goal.returns-in_err-thin-clause-err
returns-in_err-thin-clause-err c =
    let p = err_from_is_err_and c.from_residual-in_err-thin.result c.from_residual-in_err-thin.ensures.1 in
    rw (p.1, p.2) (no_thin (rows_of (found_of c.args.matches.now)) c.in_ok-workers.workers c.in_ok-budget.budget c.in_ok-split.split c.in_ok-beam.beam c.in_err-thin.field-0.0 c.in_ok-workers.ensures.ok c.in_ok-budget.ensures.ok c.in_ok-split.ensures.ok c.in_ok-beam.ensures.ok c.in_err-thin.ensures.err)

pub returns-clause-ok : goal.returns-clause-ok
returns-clause-ok c =
    let made = c.with_flags.result in
    have_numbers (rows_of (found_of c.args.matches.now)) made _ _ _ _ _ _ c.in_ok-workers.ensures.ok c.in_ok-budget.ensures.ok c.in_ok-split.ensures.ok c.in_ok-beam.ensures.ok c.in_ok-thin.ensures.ok
    c.with_flags.ensures.flags
    (c.with_flags.ensures.numbers ∙ ap (λ (s : Chosen). record s { first = made.first; deepen = made.deepen; chains = made.chains }) c.settings_with-search.ensures)
