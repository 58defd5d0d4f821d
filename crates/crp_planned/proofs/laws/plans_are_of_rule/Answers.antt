use Rattle.crp_planned.proofs.OfRule.{none_outside}
use Rattle.crp_planned.proofs.laws.plans_are_of_rule.Goals as goal

pub returns : goal.returns
returns c = none_outside
