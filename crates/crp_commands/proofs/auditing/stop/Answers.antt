use Rattle.std.proofs.Common.{◌∙◌, inr, subst}
use Rattle.crp_plan.proofs.Interruptions.{has_failed}
use Rattle.crp_audit.specs.Faults.{IsAuditRefusal}
use Rattle.crp_audit.specs.Stops.{IsAuditStop}
use Rattle.crp_commands.specs.declared.heads.TheConstants.{ANY_SIZE}
use Rattle.crp_commands.proofs.auditing.stop.Goals as goal

pub returns-in_default-write_all-clause-stated : goal.returns-in_default-write_all-clause-stated
returns-in_default-write_all-clause-stated g c =
    λ h given before after text why.
    let refused : IsAuditRefusal h c.args.stopped.before c.in-Fault.fault = subst (IsAuditStop h ANY_SIZE before after c.args.stopped.before) c.in-Fault.is why in
    inr (
      has_failed c.in_default-write_all.ensures.gave_up,
      (c.deref.result.now, inr (c.args.stopped.before, c.in-Fault.fault, refused, c.deref.ensures.value ∙ c.in-Ok.ensures), c.in_default-write_all.ensures.part),
    )
