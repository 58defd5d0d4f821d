use Rattle.std.proofs.Common.{reverse, ap, ◌∙◌, subst, arith}
use Rattle.crp_bay.specs.Back.{PlaceAndTrail}
use Rattle.crp_bounds.specs.Bounds.{blocking}
use Rattle.crp_bounds.specs.Leasts.{KnowsBounds}
use Rattle.crp_bay.specs.Reached.{IsReached}
use Rattle.crp_bounds.proofs.Counting.{blocking_below}
use Rattle.crp_bounds.proofs.Leasts.{few_blocked}
use Rattle.crp_bounds.proofs.Undone.{known_now}
use Rattle.crp_bounds.proofs.in_place.Bounded.blocking.Goals as goal

pub returns-clause-value : goal.returns-clause-value
returns-clause-value c =
    let k : KnowsBounds c.self.inside.leasts c.self.inside.blocking c.self.inside.position.place = known_now (reverse c.self.inside.undos.items) c.self.inside.position.trail c.self.inside.leasts c.self.inside.blocking c.self.inside.position.place c.self.invariant in
    c.from.ensures ∙ k.blocks ∙ ap (λ (v : PlaceAndTrail). blocking v.place) c.self.view_is

pub returns-clause-few : goal.returns-clause-few
returns-clause-few c =
    let k : KnowsBounds c.self.inside.leasts c.self.inside.blocking c.self.inside.position.place = known_now (reverse c.self.inside.undos.items) c.self.inside.position.trail c.self.inside.leasts c.self.inside.blocking c.self.inside.position.place c.self.invariant in
    omega (arith, c.from.ensures, k.blocks, few_blocked c.self.inside.position.place k.reached)

pub returns-clause-below_every_run : goal.returns-clause-below_every_run
returns-clause-below_every_run c =
    let k : KnowsBounds c.self.inside.leasts c.self.inside.blocking c.self.inside.position.place = known_now (reverse c.self.inside.undos.items) c.self.inside.position.trail c.self.inside.leasts c.self.inside.blocking c.self.inside.position.place c.self.invariant in
    blocking_below c.args.self.now.place c.from.result (subst (λ (v : PlaceAndTrail). IsReached v.place) c.self.view_is k.reached) (returns-clause-value c)
