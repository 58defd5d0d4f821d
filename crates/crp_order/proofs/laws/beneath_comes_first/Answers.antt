use Rattle.crp_order.proofs.StowageSteps.{beneath_first}
use Rattle.crp_order.proofs.laws.beneath_comes_first.Goals as goal

pub returns : goal.returns
returns c = beneath_first
