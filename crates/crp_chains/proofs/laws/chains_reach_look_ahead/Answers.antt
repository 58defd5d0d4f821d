use Rattle.crp_chains.proofs.Clear.{clear}
use Rattle.crp_chains.proofs.Singles.{ahead_family}
use Rattle.crp_chains.proofs.laws.chains_reach_look_ahead.Goals as goal

pub returns : goal.returns
returns c s sound = ahead_family s (clear s sound)
