use Rattle.std.proofs.Common.{◌≡◌, ℕ, List}
use Rattle.crp_audit.specs.declared.fault.AuditStop.TheVariants.{Fault}
use Rattle.crp_audit.specs.Headline.{Handed, handed}
use Rattle.crp_callers.proofs.Accepted.{fault_at}
use Rattle.crp_callers.proofs.audits.first_fault.Goals as goal

pub returns-in-Fault-clause-first : goal.returns-in-Fault-clause-first
returns-in-Fault-clause-first c =
    let of : List ℕ → Handed = handed c.args.yard.now c.args.orders.now c.args.sequence.now c.args.report.now in
    let is : c.in-Err.field-0.stop ≡ Fault c.in-Fault.fault = cc in
    let stops = c.in-Err.ensures.refused in
    fault_at of _ _ _ stops.0 c.args.certificates.now _ _ c.in-Fault.fault stops.1 is stops.2
