use Rattle.std.proofs.Common.{◌+◌, reverse, ap, subst, arith}
use Rattle.crp_bay.specs.Back.{PlaceAndTrail}
use Rattle.crp_bay.specs.Reached.{IsReached}
use Rattle.crp_bounds.specs.Bounds.{stuck_now}
use Rattle.crp_bounds.specs.Leasts.{KnowsBounds}
use Rattle.crp_bounds.proofs.Counting.{ahead_below}
use Rattle.crp_bounds.proofs.Undone.{known_now}
use Rattle.crp_bounds.proofs.in_place.Bounded.look_ahead.Goals as goal

pub again_from-requires-clause-known : goal.again_from-requires-clause-known
again_from-requires-clause-known c =
    let k : KnowsBounds c.self.inside.leasts c.self.inside.blocking c.self.inside.position.place = known_now (reverse c.self.inside.undos.items) c.self.inside.position.trail c.self.inside.leasts c.self.inside.blocking c.self.inside.position.place c.self.invariant in
    k.leasts_known

pub returns-clause-below_every_run : goal.returns-clause-below_every_run
returns-clause-below_every_run c =
    let k : KnowsBounds c.self.inside.leasts c.self.inside.blocking c.self.inside.position.place = known_now (reverse c.self.inside.undos.items) c.self.inside.position.trail c.self.inside.leasts c.self.inside.blocking c.self.inside.position.place c.self.invariant in
    ahead_below c.args.self.now.place (c.blocking-blocking.result + c.again_from.result) (subst (λ (v : PlaceAndTrail). IsReached v.place) c.self.view_is k.reached)
    (omega (arith, c.blocking-blocking.ensures.value, c.again_from.ensures.value, ap (λ (v : PlaceAndTrail). stuck_now v.place) c.self.view_is))
