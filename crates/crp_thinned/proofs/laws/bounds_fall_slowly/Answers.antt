use Rattle.crp_thinned.proofs.Falling.{blocking_slow, ahead_slow}
use Rattle.crp_thinned.proofs.laws.bounds_fall_slowly.Goals as goal

pub returns : goal.returns
returns c = record { blocking = blocking_slow; look_ahead = ahead_slow }
