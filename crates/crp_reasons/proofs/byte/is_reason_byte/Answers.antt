use Rattle.crp_reasons.proofs.Bracketed.{may_stand}
use Rattle.crp_reasons.proofs.byte.is_reason_byte.Goals as goal

pub returns : goal.returns
returns c = may_stand c.args.byte c.contains.result c.contains.ensures.cases
