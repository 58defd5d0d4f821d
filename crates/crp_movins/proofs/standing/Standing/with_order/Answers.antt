use Rattle.crp_movins.proofs.StandingSteps.{order-none, order-again, order-first}
use Rattle.crp_movins.proofs.standing.Standing.with_order.Goals as goal

pub returns-in-None : goal.returns-in-None
returns-in-None c =
    order-none c.args.at.now.segments.now c.args.at.now.loading.now c.args.at.now.number c.args.self c.requires.here c.requires.kind c.in-None.is

pub returns-then-self : goal.returns-then-self
returns-then-self c =
    order-again c.args.at.now.segments.now c.args.at.now.loading.now c.args.at.now.number c.args.self c.in_default.field-0 c.requires.here c.requires.kind c.in_default.is c.if-self.true

pub overflow_sub-result : goal.overflow_sub-result
overflow_sub-result c =
    (order-first c.args.at.now.segments.now c.args.at.now.loading.now c.args.at.now.number c.args.self c.in_default.field-0 c.requires.here c.requires.kind c.in_default.is c.if-self.false).0

pub returns : goal.returns
returns c =
    (order-first c.args.at.now.segments.now c.args.at.now.loading.now c.args.at.now.number c.args.self c.in_default.field-0 c.requires.here c.requires.kind c.in_default.is c.if-self.false).1
