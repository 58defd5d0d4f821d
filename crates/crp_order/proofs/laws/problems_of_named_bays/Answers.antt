use Rattle.crp_order.proofs.ChosenSteps.{problems-chosen}
use Rattle.crp_order.proofs.laws.problems_of_named_bays.Goals as goal

pub returns : goal.returns
returns c = problems-chosen
