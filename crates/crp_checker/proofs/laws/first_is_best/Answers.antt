use Rattle.crp_checker.proofs.Meaning.{plan_of_first, says_first}
use Rattle.crp_checker.proofs.laws.first_is_best.Goals as goal

pub returns : goal.returns
returns c = record { plan = plan_of_first; verdict = λ script verdict least v. says_first script.head.claim _ _ verdict least v }
