use Rattle.crp_bounds.proofs.Bounding.{blocking_bound}
use Rattle.crp_bounds.proofs.laws.blocking_bounds.Goals as goal

pub returns : goal.returns
returns c s moves sound k = blocking_bound s moves k.0 sound k.1 k.2
