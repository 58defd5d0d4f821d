use Rattle.crp_chains.proofs.Gaining.{gain_taken, gain_shifted}
use Rattle.crp_chains.proofs.laws.chains_fall_slowly.Goals as goal

pub returns : goal.returns
returns c = record { taken = gain_taken; shifted = gain_shifted }
