use Rattle.std.proofs.Common.{◌≡◌, ◌+◌, length, Contains, sym, ap, ◌∙◌, subst, arith}
use Rattle.crp_plan.specs.Bay.{Position}
use Rattle.crp_bay.specs.Back.{PlaceAndTrail}
use Rattle.crp_bounds.specs.Bounds.{blocking}
use Rattle.crp_thinned.specs.Thinned.{good_rows, settled_over, child_at}
use Rattle.crp_thinned.specs.Missing.{IsSoundlyThin}
use Rattle.crp_thinned.proofs.Keeping.{thin_at}
use Rattle.crp_thinning.specs.Steps.{PlaceAndSteps, trail_of}
use Rattle.crp_thinning.proofs.Forward.{trail_short}
use Rattle.crp_thinning.proofs.Freed.{freed_at, freed_on}
use Rattle.crp_thinning.proofs.thinned.Thinned.put.Goals as goal

pub overflow_sub-self : goal.overflow_sub-self
overflow_sub-self c =
    let s : Position = c.self.inside.track.place in
    let good : Contains (good_rows s) c.args.row = subst (λ (v : PlaceAndTrail). Contains (good_rows v.place) c.args.row) (sym c.self.view_is) c.requires in
    omega (arith, c.self.invariant.blocks, freed_at s c.args.row c.self.invariant.thin good)

pub overflow_add-self : goal.overflow_add-self
overflow_add-self c =
    omega (arith, c.self.invariant.deep, ap length c.put.ensures.trail, ap length c.settle.ensures.trail, trail_short c.settle.new.track.steps c.settle.new.track.place, c.settle.ensures.few)

pub invariant_of-self : goal.invariant_of-self
invariant_of-self c =
    let s : Position = c.self.inside.track.place in
    let good : Contains (good_rows s) c.args.row = subst (λ (v : PlaceAndTrail). Contains (good_rows v.place) c.args.row) (sym c.self.view_is) c.requires in
    let at : c.settle.new.track.place ≡ child_at s c.args.row = c.settle.ensures.place ∙ ap (λ (v : PlaceAndSteps). settled_over v.place) c.put.ensures.value in
    let less : blocking (child_at s c.args.row) + 1 ≡ blocking s = freed_at s c.args.row c.self.invariant.thin good in
    record {
      thin = subst IsSoundlyThin (sym at) (thin_at s c.args.row c.self.invariant.thin good);
      deep = omega (arith, c.self.invariant.deep, ap length c.put.ensures.trail, ap length c.settle.ensures.trail);
      blocks = omega (arith, c.self.invariant.blocks, less, ap blocking at);
      few = omega (arith, c.self.invariant.few);
      freed = freed_on c.self.inside.blocking s (child_at s c.args.row) (trail_of c.self.inside.track.steps s) (trail_of c.settle.new.track.steps c.settle.new.track.place) c.self.invariant.blocks c.self.invariant.few c.self.invariant.freed less (c.settle.ensures.trail ∙ c.put.ensures.trail);
    }

pub returns-clause-depth : goal.returns-clause-depth
returns-clause-depth c = omega (arith, trail_short c.settle.new.track.steps c.settle.new.track.place, c.settle.ensures.few)
