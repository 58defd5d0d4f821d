use Rattle.std.proofs.Common.{◌≡◌, ◌≢◌, codes, refl, rules}
use Rattle.crp_report.specs.Runs.{SourceSeen, source_seen}
use Rattle.crp_commands.proofs.FollowedFiles.{over_input, over_report}
use Rattle.crp_commands.proofs.over_follow_files.follow_report.Goals as goal

pub returns-then-eq-clause-ended : goal.returns-then-eq-clause-ended
returns-then-eq-clause-ended g c =
    let named : c.args.asked.now.names.now.report.now ≡ codes "-" = search rules in
    over_input _ c.args.asked.now.names.now _ _ _ c.follow_to.result named c.follow_to.ensures.ended

pub returns-clause-ended : goal.returns-clause-ended
returns-clause-ended g c =
    let named : c.args.asked.now.names.now.report.now ≢ codes "-" = search rules in
    let report : SourceSeen = source_seen g.F.Input.Source.remaining g.F.Input.Source.failures c.in-Ok.report c.follow_to-answer.new.report in
    over_report _ c.args.asked.now.names.now _ _ _ report _ c.follow_to-answer.result named c.open.ensures.kept c.close.ensures.kept c.in-Ok.ensures.count
    (record { bytes = c.in-Ok.ensures.bytes; new = c.in-Ok.ensures.new }) refl c.close.ensures.count c.follow_to-answer.ensures.ended
