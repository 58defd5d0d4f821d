use Rattle.std.proofs.Common.{◌+◌, arith}
use Rattle.crp_bounds.proofs.Counting.{ahead_below}
use Rattle.crp_bounds.proofs.ahead.look_ahead.Goals as goal

pub returns-clause-below_every_run : goal.returns-clause-below_every_run
returns-clause-below_every_run c =
    ahead_below c.args.position.now.place (c.blocking-blocking.result + c.again_from.result) c.leasts_of.ensures.reached (omega (arith, c.blocking-blocking.ensures.value, c.again_from.ensures.value))
