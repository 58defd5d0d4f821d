use Rattle.std.proofs.Common.{◌∙◌, ap, inr, refl}
use Rattle.crp_report.specs.Runs.{SourceSeen, sink_seen, source_seen}
use Rattle.crp_files.specs.Known.{KnownFiles}
use Rattle.crp_commands.specs.Compare.{CompareSeen}
use Rattle.crp_commands.proofs.Compared.{none_before, over_devices}
use Rattle.crp_commands.proofs.Finished.{more_and_more, more_from}
use Rattle.crp_commands.proofs.over_compare_files.compare_opened.Goals as goal

pub returns-clause-ended : goal.returns-clause-ended
returns-clause-ended g c =
    let seen : CompareSeen = record {
      yard = source_seen g.Y.Source.remaining g.Y.Source.failures c.args.yard.now c.compare-answer.new.yard;
      report = source_seen g.F.Input.Source.remaining g.F.Input.Source.failures c.in-Ok.report c.compare-answer.new.report;
      second = source_seen g.F.Input.Source.remaining g.F.Input.Source.failures c.in-Ok-open.second c.compare-answer.new.second;
      table = sink_seen g.W.Sink.contents g.W.Sink.failures c.args.streams.now.out c.compare-answer.new.out;
    } in
    let given : SourceSeen = source_seen g.R.Source.remaining g.R.Source.failures c.args.streams.now.input c.args.streams.now.input in
    let names = c.args.asked.now.names.now in
    over_devices _ names _ seen.yard given seen.table seen c.compare-answer.result (record {
      yard_is = refl;
      reports = inr (inr (
        c.requires.first,
        c.requires.second,
        record { bytes = c.in-Ok.ensures.bytes; new = c.in-Ok.ensures.new },
        record { bytes = c.in-Ok-open.ensures.bytes ∙ ap (λ (k : KnownFiles). k.given names.second.now) c.open.ensures.kept; new = c.in-Ok-open.ensures.new },
        refl,
        none_before _ _ _ (more_and_more _ _ _ _ _ (more_from _ _ _ _ (c.in-Ok-open.ensures.count ∙ c.in-Ok.ensures.count) c.close.ensures.count) c.close-2.ensures.count),
      ));
      table = refl;
      kept = c.close-2.ensures.kept ∙ c.close.ensures.kept ∙ c.open-2.ensures.kept ∙ c.open.ensures.kept;
    }) c.compare-answer.ensures.ended
