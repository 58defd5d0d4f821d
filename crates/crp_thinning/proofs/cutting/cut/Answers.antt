use Rattle.std.proofs.Common.{codes, arith}
use Rattle.crp_thinning.proofs.Closing.{blocking_closes, ahead_closes}
use Rattle.crp_thinning.proofs.cutting.cut.Goals as goal

pub returns-then-blocking-need-clause-closed : goal.returns-then-blocking-need-clause-closed
returns-then-blocking-need-clause-closed c =
    (codes "B", blocking_closes c.args.place.now.place c.args.need (omega (arith, c.blocking.ensures.value, c.if-blocking-need.true)), c.in_ok-push.ensures.items)

pub returns-then-look_ahead_reaches-clause-closed : goal.returns-then-look_ahead_reaches-clause-closed
returns-then-look_ahead_reaches-clause-closed c =
    (codes "L", ahead_closes c.args.place.now.place c.args.need (c.look_ahead_reaches.ensures.0 c.if-look_ahead_reaches.true), c.in_ok-push-2.ensures.items)
