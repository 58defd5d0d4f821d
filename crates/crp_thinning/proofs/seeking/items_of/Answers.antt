use Rattle.std.proofs.Common.{length, ap, arith}
use Rattle.crp_plan.proofs.Steps.{same_rows}
use Rattle.crp_thinning.proofs.seeking.items_of.Goals as goal

pub add_turn-requires-clause-row : goal.add_turn-requires-clause-row
add_turn-requires-clause-row c =
    let f = c.stacks-stacks.ensures.fine in let few = f.few_rows in
    omega (arith, ap length c.stacks-stacks.ensures.value, same_rows c.args.track.now.place.heights c.args.track.now.place.stacks f.stacks_fit)
