use Rattle.std.proofs.Common.{◌≡◌, ◌≢◌, ◌∙◌, codes, refl, rules}
use Rattle.crp_report.specs.Runs.{SourceSeen, source_seen}
use Rattle.crp_commands.proofs.Performed.{from_input, from_file}
use Rattle.crp_commands.proofs.Finished.{more_from}
use Rattle.crp_commands.proofs.over_files.perform_on.Goals as goal

pub returns-then-eq-clause-done : goal.returns-then-eq-clause-done
returns-then-eq-clause-done g c =
    let named : c.args.name.now ≡ codes "-" = search rules in
    from_input c.args.name.now c.args.command.now _ c.perform-answer.result named (refl, refl) c.perform-answer.ensures.done

pub returns-clause-done : goal.returns-clause-done
returns-clause-done g c =
    let named : c.args.name.now ≢ codes "-" = search rules in
    let source : SourceSeen = source_seen g.F.Input.Source.remaining g.F.Input.Source.failures c.in-Ok.source c.perform-answer-2.new.reader.source in
    from_file c.args.name.now c.args.command.now _ source c.perform-answer-2.result named (record {
      opened = record { bytes = c.in-Ok.ensures.bytes; new = c.in-Ok.ensures.new };
      failed = more_from _ _ _ _ c.in-Ok.ensures.count c.close.ensures.count;
      kept = c.close.ensures.kept ∙ c.open.ensures.kept;
      alone = refl;
    }) c.perform-answer-2.ensures.done
