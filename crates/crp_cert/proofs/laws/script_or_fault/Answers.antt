use Rattle.crp_cert.proofs.ScriptVerdicts.{script_apart, one_script_fault}
use Rattle.crp_cert.proofs.Scripts.{script_answer}
use Rattle.crp_cert.proofs.laws.script_or_fault.Goals as goal

pub returns-clause-apart : goal.returns-clause-apart
returns-clause-apart c = script_apart

pub returns-clause-one : goal.returns-clause-one
returns-clause-one c = one_script_fault

pub returns-clause-some : goal.returns-clause-some
returns-clause-some c = script_answer
