use Rattle.crp_bounds.proofs.Bounding.{ahead_bound}
use Rattle.crp_bounds.proofs.laws.look_ahead_bounds.Goals as goal

pub returns : goal.returns
returns c s moves sound k = ahead_bound s moves k.0 sound k.1 k.2
