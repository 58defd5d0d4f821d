use Rattle.std.proofs.Common.{None}
use Rattle.crp_callers.proofs.verdicts.claims_are_right_or_wrong.Goals as goal

pub returns-clause-right : goal.returns-clause-right
returns-clause-right c = λ script refused accepted wrong. c.right_or_wrong.ensures.apart None script refused accepted tt wrong

pub returns-clause-wrong : goal.returns-clause-wrong
returns-clause-wrong c = λ script refused other is wrong also. c.right_or_wrong.ensures.one None script refused other is wrong also
