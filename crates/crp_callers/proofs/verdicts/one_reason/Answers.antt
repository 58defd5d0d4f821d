use Rattle.std.proofs.Common.{Some}
use Rattle.crp_callers.proofs.verdicts.one_reason.Goals as goal

pub returns : goal.returns
returns c = λ problem bytes refused other is also. c.accepted_or_refused.ensures.one_refusal (Some problem) bytes refused other is also
