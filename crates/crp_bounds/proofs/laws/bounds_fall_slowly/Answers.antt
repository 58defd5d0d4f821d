use Rattle.crp_bounds.proofs.Blocked.{blocking_taken}
use Rattle.crp_bounds.proofs.Bounding.{ahead_taken, ahead_shifted, blocking_falls}
use Rattle.crp_bounds.proofs.laws.bounds_fall_slowly.Goals as goal

pub returns : goal.returns
returns c = record { blocking_taken = blocking_taken; look_ahead_taken = ahead_taken; blocking_shifted = blocking_falls; look_ahead_shifted = ahead_shifted }
