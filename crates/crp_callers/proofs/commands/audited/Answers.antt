use Rattle.std.proofs.Common.{◌≡◌, Some, refl, ap}
use Rattle.crp_jobs.specs.declared.outcome.ToolFault.TheVariants.{Audited}
use Rattle.crp_callers.proofs.WrittenTexts.{audited, refused_texts}
use Rattle.crp_callers.proofs.commands.audited.Goals as goal

pub returns-in-Ok-clause-accepted : goal.returns-in-Ok-clause-accepted
returns-in-Ok-clause-accepted c =
    audited c.args.settings.now _ c.args.list.now c.args.message.now c.args.report.now c.args.certificates.now c.audit.new.out.bytes.items
    (record { list_given = refl; message_given = refl; report_given = refl; certificates_given = refl })
    (record { held = ap Some c.new-out.ensures.bytes; holds = refl }) c.in-Ok.ensures.ended.1

pub returns-in-Err-clause-refused : goal.returns-in-Err-clause-refused
returns-in-Err-clause-refused c = λ fault e.
    let is : c.in-Err.fault ≡ Audited fault = cc in
    refused_texts c.headlines_have_no_fault.ensures c.args.settings.now _ c.args.list.now c.args.message.now c.args.report.now c.args.certificates.now c.in-Err.fault fault is
    (record { list_given = refl; message_given = refl; report_given = refl; certificates_given = refl }) c.in-Err.ensures.ended.0
