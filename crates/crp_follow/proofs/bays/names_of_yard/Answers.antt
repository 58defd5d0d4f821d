use Rattle.crp_yard.specs.Inventory.{StackedBay}
use Rattle.crp_follow.proofs.InYard.{bay_at}
use Rattle.crp_follow.proofs.Named.{new_name, one_name_more}
use Rattle.crp_follow.proofs.bays.names_of_yard.Goals as goal

pub add_name-requires : goal.add_name-requires
add_name-requires c =
    let at = bay_at c.args.yard.now c.loop-i.i c.name.result.now c.name.ensures in
    new_name (λ (b : StackedBay). b.0) c.args.yard.now.bays c.loop-i.i (c.name.result.now, at.rows) c.loop-i.names.keys c.count-i-end.ensures.yard.bays_once at.is c.loop-i.invariant

pub loop-i-preserved : goal.loop-i-preserved
loop-i-preserved c =
    let at = bay_at c.args.yard.now c.loop-i.i c.name.result.now c.name.ensures in
    one_name_more (λ (b : StackedBay). b.0) c.args.yard.now.bays c.loop-i.i (c.name.result.now, at.rows) c.loop-i.names.keys c.add_name.new.names.keys at.is c.loop-i.invariant c.in_ok-add_name.ensures
