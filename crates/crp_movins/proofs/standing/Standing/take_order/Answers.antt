use Rattle.std.proofs.Common.{sym, ◌∙◌}
use Rattle.crp_movins.proofs.StandingSteps.{order-faultless}
use Rattle.crp_movins.proofs.standing.Standing.take_order.Goals as goal

pub push-requires-clause-fresh : goal.push-requires-clause-fresh
push-requires-clause-fresh c =
    let found = order-faultless c.args.at.now.segments.now c.args.at.now.loading.now c.args.at.now.number c.in-Equipment-Some.slot c.requires.faultless (sym c.requires.kind ∙ c.in-Equipment-Some.is-0) (sym c.requires.here ∙ c.in-Equipment-Some.is-1) in
    rw (c.requires.orders, c.text.ensures) found.0

pub push-requires-clause-room : goal.push-requires-clause-room
push-requires-clause-room c =
    let found = order-faultless c.args.at.now.segments.now c.args.at.now.loading.now c.args.at.now.number c.in-Equipment-Some.slot c.requires.faultless (sym c.requires.kind ∙ c.in-Equipment-Some.is-0) (sym c.requires.here ∙ c.in-Equipment-Some.is-1) in
    rw c.requires.orders found.1
