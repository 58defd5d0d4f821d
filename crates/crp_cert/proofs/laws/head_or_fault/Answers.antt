use Rattle.crp_cert.proofs.Verdicts.{apart, one_fault, some_answer}
use Rattle.crp_cert.proofs.laws.head_or_fault.Goals as goal

pub returns-clause-apart : goal.returns-clause-apart
returns-clause-apart c = apart

pub returns-clause-one : goal.returns-clause-one
returns-clause-one c = one_fault

pub returns-clause-some : goal.returns-clause-some
returns-clause-some c = some_answer
