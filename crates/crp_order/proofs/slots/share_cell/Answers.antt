use Rattle.std.proofs.Common.{arith, rules}
use Rattle.crp_order.proofs.SlotSteps.{share_near, share_between, share_even}
use Rattle.crp_order.proofs.slots.share_cell.Goals as goal

pub returns-then-apart-lt2 : goal.returns-then-apart-lt2
returns-then-apart-lt2 c = (λ _. share_near c.args.a c.args.b (rw (← c.abs_diff-apart.ensures) c.if-apart-lt2.true), λ _. search rules)

pub returns-then-apart-eq2 : goal.returns-then-apart-eq2
returns-then-apart-eq2 c = grind (arith, share_between, share_even)
