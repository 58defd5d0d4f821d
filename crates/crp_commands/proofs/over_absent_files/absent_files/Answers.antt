use Rattle.std.proofs.Common.{◌∙◌, ap, refl}
use Rattle.crp_report.specs.Runs.{sink_seen, source_seen}
use Rattle.crp_files.specs.Known.{KnownFiles}
use Rattle.crp_commands.specs.Absent.{AbsentSeen}
use Rattle.crp_commands.proofs.Finished.{more_and_more, more_from}
use Rattle.crp_commands.proofs.ListedAbsent.{over_input}
use Rattle.crp_commands.proofs.OpenedLists.{list_bytes, list_closed, list_failures, list_opened}
use Rattle.crp_commands.proofs.over_absent_files.absent_files.Goals as goal

pub returns : goal.returns
returns g c =
    let seen : AbsentSeen = record {
      yard = source_seen (list_bytes g.F.Input.Source.remaining) (list_failures g.F.Input.Source.failures) c.with_commas-yard.result c.absent-answer.new.yard;
      movins = source_seen g.F.Input.Source.remaining g.F.Input.Source.failures c.in-Ok-open.movins c.absent-answer.new.movins;
      out = sink_seen g.W.Sink.contents g.W.Sink.failures c.args.out.now c.absent-answer.new.out;
    } in
    let names = c.args.names.now in
    let second = c.open.ensures.kept in
    over_input names c.args.settings.now _ seen c.absent-answer.result (record {
      yard = list_opened _ _ _ seen.yard _ _ c.with_commas-yard.ensures.bytes c.with_commas-yard.ensures.count c.in-Ok.ensures.bytes c.in-Ok.ensures.new;
      movins = record { bytes = c.in-Ok-open.ensures.bytes ∙ ap (λ (k : KnownFiles). k.given names.movins.now) second; new = c.in-Ok-open.ensures.new };
      out = refl;
      failed = more_and_more _ _ _ _ _ (more_from _ _ _ _ (c.in-Ok-open.ensures.count ∙ c.in-Ok.ensures.count) (list_closed _ _ _ _ c.into_file.ensures.count c.close.ensures.count)) c.close-2.ensures.count;
      kept = c.close-2.ensures.kept ∙ c.close.ensures.kept ∙ c.open-2.ensures.kept ∙ second;
    }) c.absent-answer.ensures
