use Rattle.edi_text.proofs.Settled.{settled}
use Rattle.edi_text.proofs.laws.a_list_or_a_fault.Goals as goal

pub returns : goal.returns
returns c = settled
