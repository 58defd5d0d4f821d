use Rattle.crp_checker.proofs.walking.walk_from.Goals as goal

pub returns-in-Here-clause-walk : goal.returns-in-Here-clause-walk
returns-in-Here-clause-walk c = rw c.in-Here.is c.walk_first.ensures.walk

pub returns-in-Behind-clause-walk : goal.returns-in-Behind-clause-walk
returns-in-Behind-clause-walk c = rw c.in-Behind.is c.walk_on.ensures.walk
