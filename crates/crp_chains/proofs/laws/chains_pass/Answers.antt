use Rattle.crp_chains.proofs.Reading.{chains_floor}
use Rattle.crp_chains.proofs.laws.chains_pass.Goals as goal

pub returns : goal.returns
returns c p path more s family moves is a f plan e = chains_floor p path more s family moves is a f plan e
