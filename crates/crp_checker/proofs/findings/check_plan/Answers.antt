use Rattle.std.proofs.Common.{Some, sym, ap, ◌∙◌}
use Rattle.crp_checker.proofs.findings.check_plan.Goals as goal

pub returns-in-Err-clause-fault : goal.returns-in-Err-clause-fault
returns-in-Err-clause-fault c = (c.as_slice.result.now, c.in-Some.is ∙ ap Some (sym c.as_slice.ensures), c.in-Err.ensures.refused)
