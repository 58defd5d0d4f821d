use Rattle.crp_chains.proofs.Gaining.{gain_bound}
use Rattle.crp_chains.proofs.laws.chains_bound.Goals as goal

pub returns : goal.returns
returns c s family moves sound f k = gain_bound s family moves k.0 sound f k.1 k.2
