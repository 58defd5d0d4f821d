use Rattle.std.proofs.Common.{◌≡◌, ◌↔◌, Err, subst}
use Rattle.crp_steps.specs.declared.event.Stopped.TheVariants.{NotNow}
use Rattle.crp_steps.specs.Worlds.{World}
use Rattle.crp_steps.specs.Events.{IsNotNow}
use Rattle.crp_steps.proofs.Held.{can_count, stays_held, exact}
use Rattle.crp_steps.proofs.world.World.apply.Goals as goal

pub apply-requires : goal.apply-requires
apply-requires c = record { few = can_count c.self.inside.state c.self.invariant }

pub invariant_of-self : goal.invariant_of-self
invariant_of-self c = stays_held c.apply.result c.args.event c.self.inside.state c.apply.new.self c.self.invariant c.apply.ensures.followed c.apply.ensures.same

pub returns-clause-not_now : goal.returns-clause-not_now
returns-clause-not_now c =
    subst (λ (w : World). (c.apply.result ≡ Err NotNow) ↔ IsNotNow c.args.event w) c.self.view_is
    (exact c.apply.result c.args.event c.self.inside.state c.apply.new.self c.apply.ensures.followed c.apply.ensures.stopped)
