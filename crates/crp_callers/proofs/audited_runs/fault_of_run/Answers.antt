use Rattle.std.proofs.Common.{sym, subst}
use Rattle.crp_audit.specs.Headline.{IsHeadline}
use Rattle.crp_callers.proofs.audited_runs.fault_of_run.Goals as goal

pub returns : goal.returns
returns c = λ chosen seen made is e. c.first_fault.ensures.complete (subst IsHeadline (sym e) (c.headline.ensures chosen seen made is))
