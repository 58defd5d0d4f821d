use Rattle.crp_callers.proofs.Plain.{of_error}
use Rattle.crp_callers.proofs.Ended.{ended}
use Rattle.crp_callers.proofs.runs.run_in_memory.Goals as goal

pub returns-clause-ended : goal.returns-clause-ended
returns-clause-ended g c =
    let old = c.args.report.now in
    let new = c.run.new.out in
    let before = c.args.devices.now.certificates in
    let after = c.run.new.devices.certificates in
    of_error c.run.result _ _ _
    (λ f is. ended c.args.settings.now c.args.devices.now.yard.now c.args.devices.now.movins.now old.bytes.items new.bytes.items before.bytes.items after.bytes.items 0 0 0 0 old.failed new.failed before.failed after.failed 0 0 c.args.devices.now.separator f is.0)
    c.run.ensures
