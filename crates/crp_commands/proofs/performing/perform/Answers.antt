use Rattle.crp_report.specs.Runs.{SinkSeen, sink_seen}
use Rattle.crp_commands.proofs.Noted.{noted_check}
use Rattle.crp_commands.proofs.performing.perform.Goals as goal

pub returns-in-Prove-clause-done : goal.returns-in-Prove-clause-done
returns-in-Prove-clause-done g c = rw c.in-Prove.is c.prove.ensures

pub returns-in-Bound-clause-done : goal.returns-in-Bound-clause-done
returns-in-Bound-clause-done g c = rw c.in-Bound.is c.bound.ensures

pub returns-in-Check-clause-done : goal.returns-in-Check-clause-done
returns-in-Check-clause-done g c = rw c.in-Check.is c.check.ensures.done

pub returns-in-Check-clause-noted : goal.returns-in-Check-clause-noted
returns-in-Check-clause-noted g c =
    let lines : SinkSeen = sink_seen g.W.Sink.contents g.W.Sink.failures c.args.writer.now c.check.new.writer in
    rw c.in-Check.is (noted_check c.in-Check.any_size c.in-Check.workers c.in-Check.json lines _ c.check.result c.check.ensures.noted)

pub returns-in-Rewrite-clause-done : goal.returns-in-Rewrite-clause-done
returns-in-Rewrite-clause-done g c = rw c.in-Rewrite.is c.rewrite.ensures.done

pub returns-in-Rewrite-clause-noted : goal.returns-in-Rewrite-clause-noted
returns-in-Rewrite-clause-noted g c = rw c.in-Rewrite.is c.rewrite.ensures.noted
