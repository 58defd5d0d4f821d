use Rattle.crp_report.specs.declared.fault.Output.TheVariants as output
use Rattle.crp_report.proofs.Taken.{holding, piece_written}
use Rattle.crp_report.proofs.writing.write_piece.Goals as goal

pub returns-in-Report-clause-written : goal.returns-in-Report-clause-written
returns-in-Report-clause-written g c =
    rw c.in-Report.is (piece_written c.write_to.result output.Report c.args.bytes.now
    (holding (g.W.Sink.contents c.args.sinks.now.report.now) (g.W.Sink.failures c.args.sinks.now.report.now)) (holding (g.W.Sink.contents c.write_to.new.sink) (g.W.Sink.failures c.write_to.new.sink))
    (holding (g.C.Sink.contents c.args.sinks.now.certificates.now) (g.C.Sink.failures c.args.sinks.now.certificates.now))
    (holding (g.A.Sink.contents c.args.sinks.now.yard_after.now) (g.A.Sink.failures c.args.sinks.now.yard_after.now))
    _ _ c.write_to.ensures.all c.write_to.ensures.part c.write_to.ensures.refused c.write_to.ensures.counted c.write_to.ensures.grown c.write_to.ensures.passed)

pub returns-in-Certificates-clause-written : goal.returns-in-Certificates-clause-written
returns-in-Certificates-clause-written g c =
    let w = c.write_to-in-Certificates in
    rw c.in-Certificates.is (piece_written w.result output.Certificates c.args.bytes.now
    (holding (g.C.Sink.contents c.args.sinks.now.certificates.now) (g.C.Sink.failures c.args.sinks.now.certificates.now)) (holding (g.C.Sink.contents w.new.sink) (g.C.Sink.failures w.new.sink))
    (holding (g.W.Sink.contents c.args.sinks.now.report.now) (g.W.Sink.failures c.args.sinks.now.report.now))
    (holding (g.A.Sink.contents c.args.sinks.now.yard_after.now) (g.A.Sink.failures c.args.sinks.now.yard_after.now))
    _ _ w.ensures.all w.ensures.part w.ensures.refused w.ensures.counted w.ensures.grown w.ensures.passed)

pub returns-in-YardAfter-clause-written : goal.returns-in-YardAfter-clause-written
returns-in-YardAfter-clause-written g c =
    let w = c.write_to-in-YardAfter in
    rw c.in-YardAfter.is (piece_written w.result output.YardAfter c.args.bytes.now
    (holding (g.A.Sink.contents c.args.sinks.now.yard_after.now) (g.A.Sink.failures c.args.sinks.now.yard_after.now)) (holding (g.A.Sink.contents w.new.sink) (g.A.Sink.failures w.new.sink))
    (holding (g.W.Sink.contents c.args.sinks.now.report.now) (g.W.Sink.failures c.args.sinks.now.report.now))
    (holding (g.C.Sink.contents c.args.sinks.now.certificates.now) (g.C.Sink.failures c.args.sinks.now.certificates.now))
    _ _ w.ensures.all w.ensures.part w.ensures.refused w.ensures.counted w.ensures.grown w.ensures.passed)
