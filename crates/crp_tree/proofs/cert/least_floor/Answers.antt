use Rattle.std.proofs.Common.{arith}
use Rattle.crp_tree.proofs.Kept.{least_more, least_all}
use Rattle.crp_tree.proofs.cert.least_floor.Goals as goal

pub loop-part-preserved : goal.loop-part-preserved
loop-part-preserved c =
    let inv = c.loop-part.invariant in
    let r = least_more c.args.parts.now c.loop-part.part-index c.part-item.result c.loop-part.lower c.floor.result (omega arith) c.part-item.is c.floor.ensures.value inv.stands inv.lowest in
    rw c.min-lower.ensures (record { stands = r.0; lowest = r.1 })

pub returns : goal.returns
returns c =
    let inv = c.loop-part.invariant in
    least_all c.args.parts.now c.loop-part.part-index c.loop-part.lower (omega arith) inv.stands inv.lowest
