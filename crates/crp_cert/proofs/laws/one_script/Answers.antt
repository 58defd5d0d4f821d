use Rattle.crp_cert.proofs.Scripts.{script_once}
use Rattle.crp_cert.proofs.laws.one_script.Goals as goal

pub returns : goal.returns
returns c = script_once
