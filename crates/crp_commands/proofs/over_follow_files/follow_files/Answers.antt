use Rattle.std.proofs.Common.{true, false, is_some, option_map, ap}
use Rattle.crp_report.specs.Runs.{SourceSeen, source_seen}
use Rattle.crp_jobs.specs.Opened.{FilesSeen}
use Rattle.crp_commands.specs.Follow.{chosen_by}
use Rattle.crp_commands.proofs.FollowedFiles.{asked_so, over_message, over_none, over_yard}
use Rattle.crp_commands.proofs.OpenedLists.{list_bytes, list_closed, list_failures, list_opened}
use Rattle.crp_commands.proofs.over_follow_files.follow_files.Goals as goal

pub returns-in-Ok-open-clause-ended : goal.returns-in-Ok-open-clause-ended
returns-in-Ok-open-clause-ended g c =
    let yard : SourceSeen = source_seen (list_bytes g.F.Input.Source.remaining) (list_failures g.F.Input.Source.failures) c.with_commas-yard.result c.follow_report-answer.new.listed.yard in
    let message : SourceSeen = source_seen g.F.Input.Source.remaining g.F.Input.Source.failures c.in-Ok-open.movins c.follow_report-answer.new.listed.movins in
    let behind : FilesSeen = record {
      known = g.F.Files.known c.open.new.self;
      left = g.F.Files.known c.close.new.self;
      before = g.F.Files.failures c.open.new.self;
      after = g.F.Files.failures c.close.new.self;
    } in
    over_yard c.args.settings.now c.args.names.now _ behind yard _ _ c.follow_report-answer.result c.open.ensures.kept c.close-in-Some.ensures.kept c.in-Ok.ensures.count
    (list_opened _ _ _ yard _ _ c.with_commas-yard.ensures.bytes c.with_commas-yard.ensures.count c.in-Ok.ensures.bytes c.in-Ok.ensures.new)
    (list_closed _ _ _ _ c.into_file.ensures.count c.close-in-Some.ensures.count)
    (over_message (chosen_by c.args.names.now c.args.settings.now) c.args.names.now behind _ yard _ message _ _ c.follow_report-answer.result
    (ap (option_map (λ name. name.now)) c.in-Some.is) c.open-in-Some.ensures.kept c.close.ensures.kept c.in-Ok-open.ensures.count
    (record { bytes = c.in-Ok-open.ensures.bytes; new = c.in-Ok-open.ensures.new }) c.close.ensures.count
    (asked_so (chosen_by c.args.names.now c.args.settings.now) c.args.names.now _ yard _ message _ (is_some c.args.names.now.movins) true c.follow_report-answer.result
    (ap is_some c.in-Some.is) c.follow_report-answer.ensures.ended))

pub returns-in-None-clause-ended : goal.returns-in-None-clause-ended
returns-in-None-clause-ended g c =
    let yard : SourceSeen = source_seen (list_bytes g.F.Input.Source.remaining) (list_failures g.F.Input.Source.failures) c.with_commas-yard.result c.follow_report-answer-in-None.new.listed.yard in
    over_yard c.args.settings.now c.args.names.now _ _ yard _ _ c.follow_report-answer-in-None.result c.open.ensures.kept c.close-in-None.ensures.kept c.in-Ok.ensures.count
    (list_opened _ _ _ yard _ _ c.with_commas-yard.ensures.bytes c.with_commas-yard.ensures.count c.in-Ok.ensures.bytes c.in-Ok.ensures.new)
    (list_closed _ _ _ _ c.into_file-in-None.ensures.count c.close-in-None.ensures.count)
    (over_none (chosen_by c.args.names.now c.args.settings.now) c.args.names.now _ yard _ _ c.follow_report-answer-in-None.result
    (ap (option_map (λ name. name.now)) c.in-None.is)
    (asked_so (chosen_by c.args.names.now c.args.settings.now) c.args.names.now _ yard _ _ _ (is_some c.args.names.now.movins) false c.follow_report-answer-in-None.result
    (ap is_some c.in-None.is) c.follow_report-answer-in-None.ensures.ended))
