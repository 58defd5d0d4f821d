use Rattle.crp_order.proofs.StowageSteps.{one_sequence}
use Rattle.crp_order.proofs.laws.one_sequence.Goals as goal

pub returns : goal.returns
returns c = one_sequence
