use Rattle.std.proofs.lemmas.Result.{err_from_is_err_and}
use Rattle.crp_report.proofs.Runs.{end_not_made, line_not_written, end_written}
use Rattle.crp_report.proofs.running.write_end.Goals as goal

pub returns-in_err-last-clause-written : goal.returns-in_err-last-clause-written
returns-in_err-last-clause-written g c =
    let p = err_from_is_err_and c.from_residual.result c.from_residual.ensures.1 in
    rw (p.1, p.2) (end_not_made c.args.separator c.args.yard.now c.args.done.now _ c.requires.passed c.requires.complete)

pub returns-in_err-yard_after-clause-written : goal.returns-in_err-yard_after-clause-written
returns-in_err-yard_after-clause-written g c =
    let p = err_from_is_err_and c.from_residual-in_err-yard_after.result c.from_residual-in_err-yard_after.ensures.1 in
    rw (p.1, p.2) (end_not_made c.args.separator c.args.yard.now c.args.done.now _ c.requires.passed c.requires.complete)

pub returns-in_err-write_piece-clause-written : goal.returns-in_err-write_piece-clause-written
returns-in_err-write_piece-clause-written g c =
    let p = err_from_is_err_and c.from_residual-in_err-write_piece.result c.from_residual-in_err-write_piece.ensures.1 in
    rw (p.1, p.2) (line_not_written c.args.separator c.args.yard.now c.args.done.now c.in_ok-last.last.items c.in_ok-yard_after.yard_after.items _ _ c.in_err-write_piece.field-0.0 c.in_ok-last.ensures
    (rw c.deref.ensures.value at c.in_ok-yard_after.ensures) (rw c.deref-2.ensures.value at c.in_err-write_piece.ensures.written))

pub returns-clause-written : goal.returns-clause-written
returns-clause-written g c =
    end_written c.write_piece-2.result c.args.separator c.args.yard.now c.args.done.now c.in_ok-last.last.items c.in_ok-yard_after.yard_after.items _ _ _ c.in_ok-last.ensures
    (rw c.deref.ensures.value at c.in_ok-yard_after.ensures) (rw c.deref-2.ensures.value at c.in_ok-write_piece.ensures.written) (rw c.deref-3.ensures.value at c.write_piece-2.ensures.written)
