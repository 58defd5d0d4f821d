use Rattle.std.proofs.Common.{◌∙◌, inl, refl}
use Rattle.crp_report.specs.Runs.{SourceSeen, sink_seen, source_seen}
use Rattle.crp_commands.specs.Compare.{CompareSeen}
use Rattle.crp_commands.proofs.Compared.{none_before, over_devices}
use Rattle.crp_commands.proofs.Finished.{more_from}
use Rattle.crp_commands.proofs.over_compare_files.compare_first_given.Goals as goal

pub returns-clause-ended : goal.returns-clause-ended
returns-clause-ended g c =
    let seen : CompareSeen = record {
      yard = source_seen g.Y.Source.remaining g.Y.Source.failures c.args.yard.now c.compare-answer.new.yard;
      report = source_seen g.R.Source.remaining g.R.Source.failures c.args.streams.now.input c.compare-answer.new.report;
      second = source_seen g.F.Input.Source.remaining g.F.Input.Source.failures c.in-Ok.second c.compare-answer.new.second;
      table = sink_seen g.W.Sink.contents g.W.Sink.failures c.args.streams.now.out c.compare-answer.new.out;
    } in
    over_devices _ c.args.asked.now.names.now _ seen.yard seen.report seen.table seen c.compare-answer.result (record {
      yard_is = refl;
      reports = inl (
        c.requires,
        refl,
        record { bytes = c.in-Ok.ensures.bytes; new = c.in-Ok.ensures.new },
        none_before _ _ _ (more_from _ _ _ _ c.in-Ok.ensures.count c.close.ensures.count),
      );
      table = refl;
      kept = c.close.ensures.kept ∙ c.open.ensures.kept;
    }) c.compare-answer.ensures.ended
