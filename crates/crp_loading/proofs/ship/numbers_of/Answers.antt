use Rattle.std.proofs.Common.{◌<◌, ◌-◌, ◌∙◌, [], arith, length}
use Rattle.crp_loading.proofs.ShipSteps.{one_more_name}
use Rattle.crp_loading.proofs.ship.numbers_of.Goals as goal

pub loop-i-preserved : goal.loop-i-preserved
loop-i-preserved c q =
    let some : 0 < c.loop-i.i = omega arith in
    let low : c.loop-i.i - 1 < length c.args.names.now = omega arith in
    c.in_ok-insert.ensures.updates.0 q ∙ rw (c.loop-i.invariant q) (one_more_name c.args.names.now c.loop-i.i (record { ref_ptr = (0, 0); now = [] }) q.now some low)
