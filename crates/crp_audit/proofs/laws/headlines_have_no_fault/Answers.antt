use Rattle.crp_audit.proofs.NoFault.{no_fault}
use Rattle.crp_audit.proofs.laws.headlines_have_no_fault.Goals as goal

pub returns : goal.returns
returns c = no_fault
