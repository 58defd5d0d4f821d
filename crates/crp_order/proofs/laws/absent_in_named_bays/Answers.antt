use Rattle.crp_order.proofs.ChosenSteps.{absent-chosen, all-chosen}
use Rattle.crp_order.proofs.laws.absent_in_named_bays.Goals as goal

pub returns-clause-absent : goal.returns-clause-absent
returns-clause-absent c = absent-chosen

pub returns-clause-all : goal.returns-clause-all
returns-clause-all c = all-chosen
