use Rattle.std.proofs.Common.{length, ap, arith}
use Rattle.crp_sizes.specs.Sizes.{heights_at}
use Rattle.crp_sizes.proofs.Bays.{heights_can_be}
use Rattle.crp_yard.proofs.YardSteps.{fit_at, fit_rows, low_stacks}
use Rattle.crp_yard.proofs.yard.Yard.bay.Goals as goal

pub returns-clause-rows : goal.returns-clause-rows
returns-clause-rows c =
    let sound = c.self.invariant.sound in
    let fit = fit_at c.self.inside.sizes c.self.inside.bays.entries c.args.bay (c.in-Some.name.now, c.in-Some.stacks.now) sound.bays_fit c.in-Some.ensures.entry in
    let can = heights_can_be c.self.inside.sizes sound.sizes_fit c.in-Some.name.now in
    omega (arith, ap length c.rows.ensures, fit_rows (heights_at c.self.inside.sizes c.in-Some.name.now) c.in-Some.stacks.now fit, can.0.1)

pub returns-clause-tiers : goal.returns-clause-tiers
returns-clause-tiers c =
    let sound = c.self.invariant.sound in
    let fit = fit_at c.self.inside.sizes c.self.inside.bays.entries c.args.bay (c.in-Some.name.now, c.in-Some.stacks.now) sound.bays_fit c.in-Some.ensures.entry in
    let can = heights_can_be c.self.inside.sizes sound.sizes_fit c.in-Some.name.now in
    rw c.rows.ensures (low_stacks (heights_at c.self.inside.sizes c.in-Some.name.now) c.in-Some.stacks.now fit can.1)
