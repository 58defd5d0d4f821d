use Rattle.std.proofs.Common.{Vec, Global}
use Rattle.std.specs.Prelude.{flat_map}
use Rattle.crp_report.specs.declared.fault.Output.TheVariants as output
use Rattle.crp_report.proofs.Taken.{holding, piece_written}
use Rattle.crp_report.proofs.writing.write_certificate.Goals as goal

pub returns-clause-written : goal.returns-clause-written
returns-clause-written g c =
    let w = c.write_shares_to in
    piece_written w.result output.Certificates (flat_map (λ share. share.items) c.args.shares.now)
    (holding (g.C.Sink.contents c.args.sinks.now.certificates.now) (g.C.Sink.failures c.args.sinks.now.certificates.now)) (holding (g.C.Sink.contents w.new.sink) (g.C.Sink.failures w.new.sink))
    (holding (g.W.Sink.contents c.args.sinks.now.report.now) (g.W.Sink.failures c.args.sinks.now.report.now))
    (holding (g.A.Sink.contents c.args.sinks.now.yard_after.now) (g.A.Sink.failures c.args.sinks.now.yard_after.now))
    _ _ w.ensures.all w.ensures.part w.ensures.refused w.ensures.counted w.ensures.grown w.ensures.passed
