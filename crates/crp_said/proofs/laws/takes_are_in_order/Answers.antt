use Rattle.crp_said.proofs.Takes.{plan_takes}
use Rattle.crp_said.proofs.laws.takes_are_in_order.Goals as goal

pub returns : goal.returns
returns c = plan_takes
