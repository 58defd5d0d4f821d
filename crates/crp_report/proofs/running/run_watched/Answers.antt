use Rattle.std.proofs.Common.{MatchResult, inl, rules, arith}
use Rattle.std.proofs.lemmas.Result.{err_from_is_err_and}
use Rattle.std.proofs.KnownBytes.{Keeps-refl}
use Rattle.std.proofs.Math.Path.{subst⁻¹}
use Rattle.crp_report.specs.Runs.{RunSeen, RunEnds, RunFails, source_seen, sink_seen}
use Rattle.crp_report.proofs.Runs.{list_refused, message_refused, run_ended}
use Rattle.crp_report.proofs.Shown.{shows_nothing, shows_then}
use Rattle.crp_report.proofs.running.run_watched.Goals as goal

pub returns-in_err-yard-clause-written : goal.returns-in_err-yard-clause-written
returns-in_err-yard-clause-written g c =
    let p = err_from_is_err_and c.from_residual.result c.from_residual.ensures.1 in
    rw (p.1, p.2) (
      list_refused c.args.settings.now _ c.in_err-yard.field-0.0 (search rules) (rw c.input-input.ensures.value at (rw c.sizes.ensures.value at c.in_err-yard.ensures.refused)),
      omega (arith, c.in_err-yard.ensures.counted, c.in_err-yard.ensures.passed),
    )

pub returns-in_err-yard-clause-shown : goal.returns-in_err-yard-clause-shown
returns-in_err-yard-clause-shown g c = shows_nothing (g.E.Sink.contents c.args.errors.now)

pub returns-in_err-segments-clause-written : goal.returns-in_err-segments-clause-written
returns-in_err-segments-clause-written g c =
    let p = err_from_is_err_and c.from_residual-in_err-segments.result c.from_residual-in_err-segments.ensures.1 in
    let (list, given, listed) = c.in_ok-yard.ensures.accepted in
    rw (p.1, p.2) (
      message_refused c.args.settings.now _ c.in_err-segments.field-0.0
          (Keeps-refl (g.W.Sink.contents c.args.out.now), Keeps-refl (g.C.Sink.contents c.args.devices.now.certificates), Keeps-refl (g.A.Sink.contents c.args.devices.now.yard_after))
          (list, c.in_ok-yard.yard, given, rw c.input-input.ensures.value at (rw c.sizes.ensures.value at listed))
          (rw c.input-input.ensures.value at (rw c.loading.ensures at c.in_err-segments.ensures.refused)),
      omega (arith, c.in_ok-yard.ensures.counted, c.in_err-segments.ensures.counted, c.in_err-segments.ensures.passed),
    )

pub returns-in_err-segments-clause-shown : goal.returns-in_err-segments-clause-shown
returns-in_err-segments-clause-shown g c = shows_nothing (g.E.Sink.contents c.args.errors.now)

pub returns-in_err-work-clause-written : goal.returns-in_err-work-clause-written
returns-in_err-work-clause-written g c =
    let p = err_from_is_err_and c.from_residual-in_err-work.result c.from_residual-in_err-work.ensures.1 in
    rw (p.1, p.2) (inl (search rules), omega (arith, c.in_ok-yard.ensures.counted, c.in_ok-segments.ensures.counted, c.in_ok-segments.ensures.passed))

pub returns-in_err-work-clause-shown : goal.returns-in_err-work-clause-shown
returns-in_err-work-clause-shown g c = shows_nothing (g.E.Sink.contents c.args.errors.now)

pub returns-clause-written : goal.returns-clause-written
returns-clause-written g c =
    let (list, given_list, listed) = c.in_ok-yard.ensures.accepted in
    let (message, given_message, ordered) = c.in_ok-segments.ensures.accepted in
    let sinks = c.write_run-ended.new.sinks in
    let seen : g.row.W.Denot → RunSeen = λ out. record {
      yard = source_seen g.Y.Source.remaining g.Y.Source.failures c.args.devices.now.yard c.yard_from.new.source;
      movins = source_seen g.M.Source.remaining g.M.Source.failures c.args.devices.now.movins c.message_from.new.source;
      report = sink_seen g.W.Sink.contents g.W.Sink.failures c.args.out.now out;
      certificates = sink_seen g.C.Sink.contents g.C.Sink.failures c.args.devices.now.certificates sinks.certificates.now;
      yard_after = sink_seen g.A.Sink.contents g.A.Sink.failures c.args.devices.now.yard_after sinks.yard_after.now;
      separator = c.args.devices.now.separator;
    } in
    subst⁻¹ (λ out. MatchResult c.write_run-ended.result (RunEnds c.args.settings.now (seen out)) (RunFails c.args.settings.now (seen out))) {y = sinks.report.now} (search rules)
    (run_ended c.write_run-ended.result c.args.settings.now (seen sinks.report.now) _ _ _ list message c.in_ok-yard.yard c.in_ok-segments.field-0.orders c.in_ok-work.work.sequence
    c.in_ok-work.work.first.items _ (record {
      given_list = given_list;
      given_message = given_message;
      listed = rw c.input-input.ensures.value at (rw c.sizes.ensures.value at listed);
      ordered = rw c.input-input.ensures.value at (rw c.loading.ensures at ordered);
      in_sequence = c.in_ok-work.ensures.sequence;
    }) c.in_ok-work.ensures.first c.in_ok-work.ensures.problems c.in_ok-yard.ensures.counted c.in_ok-segments.ensures.counted
    c.in_ok-segments.ensures.count (rw c.in_ok-work.ensures.yard at (rw c.search.ensures at c.write_run-ended.ensures.written)))

pub returns-clause-shown : goal.returns-clause-shown
returns-clause-shown g c = shows_then _ _ _ (shows_then _ _ _ c.accepts.ensures c.write_run-ended.ensures.shown) c.ends.ensures
