use Rattle.std.proofs.Common.{arith}
use Rattle.crp_callers.proofs.ways.bounds_are_met.Goals as goal

pub returns-clause-none : goal.returns-clause-none
returns-clause-none c = λ s moves sound way nothing. omega (arith, c.blocking_bounds.ensures s moves sound way, nothing)

pub returns-clause-no_more : goal.returns-clause-no_more
returns-clause-no_more c = λ s moves sound way as_many. omega (arith, c.look_ahead_bounds.ensures s moves sound way, c.look_ahead_is_higher.ensures s, as_many)
