use Rattle.crp_yard.proofs.ReadBack.{reads_back}
use Rattle.crp_yard.proofs.laws.text_reads_back.Goals as goal

pub returns : goal.returns
returns c = reads_back
