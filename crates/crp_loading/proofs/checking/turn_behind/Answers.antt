use Rattle.std.proofs.Common.{sym}
use Rattle.crp_loading.proofs.CheckSteps.{late}
use Rattle.crp_loading.proofs.checking.turn_behind.Goals as goal

pub returns-then-turn-last-clause-wrong : goal.returns-then-turn-last-clause-wrong
returns-then-turn-last-clause-wrong c before ends = late before c.args.ship.now.sequence c.args.container.now c.args.last c.args.line c.in-Some.turn (sym c.in-Some.ensures) c.if-turn-last.true ends
