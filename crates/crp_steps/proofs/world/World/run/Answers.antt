use Rattle.std.proofs.Common.{◌<◌, length, arith, subst, sym}
use Rattle.crp_steps.specs.declared.event.Kind.TheVariants.{See}
use Rattle.crp_steps.specs.Events.{ComeInPart}
use Rattle.crp_steps.proofs.Asked.{in_part, one_came, at_err}
use Rattle.crp_steps.proofs.world.World.run.Goals as goal

pub returns-in_err-pass-clause-part : goal.returns-in_err-pass-clause-part
returns-in_err-pass-clause-part c =
    let lt : c.loop-event.event-index < length c.args.events.now = omega arith in
    at_err c.from_residual.result (ComeInPart c.args.events.now c.args.self.now c.pass.new.self)
    (subst (λ x. ComeInPart c.args.events.now c.args.self.now x) (sym c.in_err-pass.ensures.same)
    (in_part c.args.events.now c.loop-event.event-index (record { worker = 0; kind = See }) c.args.self.now c.loop-event.self lt c.loop-event.invariant c.in_err-pass.ensures.allowed))

pub loop-event-preserved : goal.loop-event-preserved
loop-event-preserved c =
    let lt : c.loop-event.event-index < length c.args.events.now = omega arith in
    one_came c.args.events.now c.loop-event.event-index (record { worker = 0; kind = See }) c.args.self.now c.loop-event.self c.pass.new.self lt c.loop-event.invariant c.in_ok-pass.ensures.comes
