use Rattle.std.proofs.Common.{arith}
use Rattle.crp_bounds.proofs.laws.look_ahead_is_higher.Goals as goal

pub returns : goal.returns
returns c s = omega arith
