use Rattle.crp_report.specs.Runs.{SourceSeen, source_seen}
use Rattle.crp_commands.proofs.Compared.{over_yard}
use Rattle.crp_commands.proofs.OpenedLists.{list_bytes, list_closed, list_failures, list_opened}
use Rattle.crp_commands.proofs.over_compare_files.compare_files.Goals as goal

pub returns-clause-ended : goal.returns-clause-ended
returns-clause-ended g c =
    let yard : SourceSeen = source_seen (list_bytes g.F.Input.Source.remaining) (list_failures g.F.Input.Source.failures) c.with_commas-yard.result c.compare_reports-answer.new.yard in
    over_yard c.args.settings.now c.args.names.now _ _ yard _ _ c.compare_reports-answer.result c.open.ensures.kept c.close.ensures.kept c.in-Ok.ensures.count
    (list_opened _ _ _ yard _ _ c.with_commas-yard.ensures.bytes c.with_commas-yard.ensures.count c.in-Ok.ensures.bytes c.in-Ok.ensures.new)
    (list_closed _ _ _ _ c.into_file.ensures.count c.close.ensures.count) c.compare_reports-answer.ensures.ended
