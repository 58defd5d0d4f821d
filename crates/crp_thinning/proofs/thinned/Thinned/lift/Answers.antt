use Rattle.std.proofs.Common.{◌≡◌, ◌+◌, ◌≤◌, length, sym, ap, ◌∙◌, subst, arith}
use Rattle.crp_plan.specs.Bay.{Position}
use Rattle.crp_bay.specs.Back.{PlaceAndTrail}
use Rattle.crp_bounds.specs.Bounds.{blocking}
use Rattle.crp_thinned.specs.Thinned.{settled_over, child_without}
use Rattle.crp_thinned.specs.Missing.{IsSoundlyThin}
use Rattle.crp_thinned.proofs.Keeping.{thin_without}
use Rattle.crp_thinning.specs.Steps.{PlaceAndSteps, trail_of}
use Rattle.crp_thinning.proofs.Forward.{trail_short}
use Rattle.crp_thinning.proofs.Freed.{freed_without, freed_on}
use Rattle.crp_thinning.proofs.thinned.Thinned.lift.Goals as goal

pub overflow_sub-self : goal.overflow_sub-self
overflow_sub-self c =
    let s : Position = c.self.inside.track.place in
    let left : s.next ≤ s.ordered = subst (λ (v : PlaceAndTrail). v.place.next ≤ v.place.ordered) (sym c.self.view_is) c.requires in
    omega (arith, c.self.invariant.blocks, freed_without s c.self.invariant.thin left)

pub overflow_add-self : goal.overflow_add-self
overflow_add-self c =
    omega (arith, c.self.invariant.deep, ap length c.lift.ensures.trail, ap length c.settle.ensures.trail, trail_short c.settle.new.track.steps c.settle.new.track.place, c.settle.ensures.few)

pub invariant_of-self : goal.invariant_of-self
invariant_of-self c =
    let s : Position = c.self.inside.track.place in
    let left : s.next ≤ s.ordered = subst (λ (v : PlaceAndTrail). v.place.next ≤ v.place.ordered) (sym c.self.view_is) c.requires in
    let at : c.settle.new.track.place ≡ child_without s = c.settle.ensures.place ∙ ap (λ (v : PlaceAndSteps). settled_over v.place) c.lift.ensures.value in
    let less : blocking (child_without s) + 1 ≡ blocking s = freed_without s c.self.invariant.thin left in
    record {
      thin = subst IsSoundlyThin (sym at) (thin_without s c.self.invariant.thin left);
      deep = omega (arith, c.self.invariant.deep, ap length c.lift.ensures.trail, ap length c.settle.ensures.trail);
      blocks = omega (arith, c.self.invariant.blocks, less, ap blocking at);
      few = omega (arith, c.self.invariant.few);
      freed = freed_on c.self.inside.blocking s (child_without s) (trail_of c.self.inside.track.steps s) (trail_of c.settle.new.track.steps c.settle.new.track.place) c.self.invariant.blocks c.self.invariant.few c.self.invariant.freed less (c.settle.ensures.trail ∙ c.lift.ensures.trail);
    }

pub returns-clause-depth : goal.returns-clause-depth
returns-clause-depth c = omega (arith, trail_short c.settle.new.track.steps c.settle.new.track.place, c.settle.ensures.few)
