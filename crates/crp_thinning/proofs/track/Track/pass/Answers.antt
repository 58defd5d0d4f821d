use Rattle.std.proofs.Common.{◌≡◌, ◌+◌, true, suc, reverse, sym, ap, subst, arith, lit<}
use Rattle.crp_plan.specs.Bay.{Position}
use Rattle.crp_bay.specs.Back.{place_of}
use Rattle.crp_thinned.specs.Thinned.{is_missing, passed}
use Rattle.crp_thinning.specs.declared.step.Step.TheVariants.{Passed}
use Rattle.crp_thinning.specs.Steps.{PlaceAndSteps}
use Rattle.crp_thinning.proofs.Forward.{kept_passed, kept_on, room_on, next_fits}
use Rattle.crp_thinning.proofs.track.Track.pass.Goals as goal

pub overflow_add-self : goal.overflow_add-self
overflow_add-self c = let s : Position = place_of c.self.inside.heights.items c.self.inside.ordered c.self.inside.next c.self.inside.stacks in omega (arith, next_fits (reverse c.self.inside.steps.items) s c.self.invariant)

pub push-requires : goal.push-requires
push-requires c = let s : Position = place_of c.self.inside.heights.items c.self.inside.ordered c.self.inside.next c.self.inside.stacks in (lit< tt, room_on c.self.inside.steps.items s c.self.invariant)

pub invariant_of-self : goal.invariant_of-self
invariant_of-self c =
    let s : Position = place_of c.self.inside.heights.items c.self.inside.ordered c.self.inside.next c.self.inside.stacks in
    let can : is_missing s ≡ true = subst (λ (v : PlaceAndSteps). is_missing v.place ≡ true) (sym c.self.view_is) c.requires in
    let n : c.self.inside.next + 1 ≡ suc c.self.inside.next = omega arith in
    kept_on c.self.inside.steps.items c.push.new.self.items Passed (passed s) (place_of c.self.inside.heights.items c.self.inside.ordered (c.self.inside.next + 1) c.self.inside.stacks)
    (kept_passed (reverse c.self.inside.steps.items) s c.self.invariant can)
    c.push.ensures.items
    (ap (λ k. place_of c.self.inside.heights.items c.self.inside.ordered k c.self.inside.stacks) n)
