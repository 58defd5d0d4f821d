use Rattle.std.proofs.Common.{◌∙◌, ap, refl}
use Rattle.crp_report.specs.Runs.{sink_seen, source_seen}
use Rattle.crp_commands.specs.Audit.{AuditSeen}
use Rattle.crp_files.specs.Known.{KnownFiles}
use Rattle.crp_commands.proofs.Audited.{closed_four, over_files}
use Rattle.crp_commands.proofs.Finished.{more_from}
use Rattle.crp_commands.proofs.OpenedLists.{list_bytes, list_closed, list_failures, list_opened}
use Rattle.crp_commands.proofs.over_audit_files.audit_files.Goals as goal

pub returns-clause-ended : goal.returns-clause-ended
returns-clause-ended g c =
    let seen : AuditSeen = record {
      yard = source_seen (list_bytes g.F.Input.Source.remaining) (list_failures g.F.Input.Source.failures) c.with_commas-yard.result c.audit-answer.new.yard;
      movins = source_seen g.F.Input.Source.remaining g.F.Input.Source.failures c.in-Ok-open.movins c.audit-answer.new.movins;
      report = source_seen g.F.Input.Source.remaining g.F.Input.Source.failures c.in-Ok-open-2.report c.audit-answer.new.report;
      certificates = source_seen g.F.Input.Source.remaining g.F.Input.Source.failures c.in-Ok-open-3.certificates c.audit-answer.new.certificates.source;
      out = sink_seen g.W.Sink.contents g.W.Sink.failures c.args.out.now c.audit-answer.new.out;
    } in
    let names = c.args.names.now in
    let second = c.open.ensures.kept in
    let third = c.open-2.ensures.kept ∙ second in
    let fourth = c.open-3.ensures.kept ∙ third in
    over_files names c.args.settings.now _ seen c.audit-answer.result (record {
      yard = list_opened _ _ _ seen.yard _ _ c.with_commas-yard.ensures.bytes c.with_commas-yard.ensures.count c.in-Ok.ensures.bytes c.in-Ok.ensures.new;
      movins = record { bytes = c.in-Ok-open.ensures.bytes ∙ ap (λ (k : KnownFiles). k.given names.movins.now) second; new = c.in-Ok-open.ensures.new };
      report = record { bytes = c.in-Ok-open-2.ensures.bytes ∙ ap (λ (k : KnownFiles). k.given names.report.now) third; new = c.in-Ok-open-2.ensures.new };
      certificates = record {
        bytes = c.in-Ok-open-3.ensures.bytes ∙ ap (λ (k : KnownFiles). k.given names.certificates.now) fourth;
        new = c.in-Ok-open-3.ensures.new;
      };
      out = refl;
      failed = closed_four _ _ _ _ _ _ _ _ _
          (more_from _ _ _ _ (c.in-Ok-open-3.ensures.count ∙ c.in-Ok-open-2.ensures.count ∙ c.in-Ok-open.ensures.count ∙ c.in-Ok.ensures.count)
          (list_closed _ _ _ _ c.into_file.ensures.count c.close.ensures.count))
          c.close-2.ensures.count c.close-3.ensures.count c.close-4.ensures.count;
      kept = c.close-4.ensures.kept ∙ c.close-3.ensures.kept ∙ c.close-2.ensures.kept ∙ c.close.ensures.kept ∙ c.open-4.ensures.kept ∙ fourth;
    }) c.audit-answer.ensures.ended
