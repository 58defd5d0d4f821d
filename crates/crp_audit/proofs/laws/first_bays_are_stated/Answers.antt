use Rattle.crp_audit.proofs.FirstBays.{problems_first, numbers_same}
use Rattle.crp_audit.proofs.laws.first_bays_are_stated.Goals as goal

pub returns-clause-problems : goal.returns-clause-problems
returns-clause-problems c = problems_first

pub returns-clause-numbers : goal.returns-clause-numbers
returns-clause-numbers c = numbers_same
