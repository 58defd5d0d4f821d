use Rattle.std.proofs.lemmas.Result.{err_from_is_err_and}
use Rattle.crp_report.proofs.Runs.{named_problems, kept_plans, kept_complete, kept_once, run_stops_first, run_stops_in_bays, run_stops_at_end, run_written}
use Rattle.crp_report.proofs.Shown.{shows_nothing}
use Rattle.crp_report.proofs.running.write_run.Goals as goal

pub returns-in_err-write_piece-clause-written : goal.returns-in_err-write_piece-clause-written
returns-in_err-write_piece-clause-written g c =
    let p = err_from_is_err_and c.from_residual.result c.from_residual.ensures.1 in
    rw (p.1, p.2) (run_stops_first c.args.separator c.args.settings c.args.work.yard c.args.work.first.items c.args.work.problems.items _ _ c.in_err-write_piece.field-0.0 c.requires.named (rw c.deref.ensures.value at c.in_err-write_piece.ensures.written))

pub returns-in_err-write_piece-clause-shown : goal.returns-in_err-write_piece-clause-shown
returns-in_err-write_piece-clause-shown g c = shows_nothing (g.E.Sink.contents c.args.errors.now)

pub write_bays-requires-clause-problems : goal.write_bays-requires-clause-problems
write_bays-requires-clause-problems g c = λ κs. λ lives. named_problems c.args.work.yard c.args.work.problems.items c.requires.named

pub returns-in_err-done-clause-written : goal.returns-in_err-done-clause-written
returns-in_err-done-clause-written g c =
    let p = err_from_is_err_and c.from_residual-in_err-done.result c.from_residual-in_err-done.ensures.1 in
    rw (p.1, p.2) (run_stops_in_bays c.args.separator c.args.settings c.args.work.yard c.args.work.first.items c.args.work.problems.items _ _ _ c.in_err-done.field-0.0 (rw c.deref.ensures.value at c.in_ok-write_piece.ensures.written) c.in_err-done.ensures.written)

pub write_end-requires-clause-plans : goal.write_end-requires-clause-plans
write_end-requires-clause-plans g c = kept_plans c.args.work.yard c.args.settings c.args.work.problems.items _ _ c.in_ok-done.done c.requires.named c.in_ok-done.ensures.written

pub write_end-requires-clause-complete : goal.write_end-requires-clause-complete
write_end-requires-clause-complete g c = kept_complete c.args.settings c.args.work.problems.items _ _ c.in_ok-done.done c.in_ok-done.ensures.written

pub write_end-requires-clause-once : goal.write_end-requires-clause-once
write_end-requires-clause-once g c = kept_once c.args.settings c.args.work.problems.items _ _ c.in_ok-done.done c.requires.once c.in_ok-done.ensures.written

pub returns-in_err-write_end-clause-written : goal.returns-in_err-write_end-clause-written
returns-in_err-write_end-clause-written g c =
    let p = err_from_is_err_and c.from_residual-in_err-write_end.result c.from_residual-in_err-write_end.ensures.1 in
    rw (p.1, p.2) (run_stops_at_end c.args.separator c.args.settings c.args.work.yard c.args.work.first.items c.args.work.problems.items _ _ _ _ c.in_ok-done.done c.in_err-write_end.field-0.0
    (rw c.deref.ensures.value at c.in_ok-write_piece.ensures.written) c.in_ok-done.ensures.written c.in_err-write_end.ensures.written)

pub returns-clause-written : goal.returns-clause-written
returns-clause-written g c =
    run_written c.args.separator c.args.settings c.args.work.yard c.args.work.first.items c.args.work.problems.items _ _ _ _ c.in_ok-done.done (rw c.deref.ensures.value at c.in_ok-write_piece.ensures.written) c.in_ok-done.ensures.written c.in_ok-write_end.ensures.written
