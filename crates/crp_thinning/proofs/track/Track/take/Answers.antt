use Rattle.std.proofs.Common.{◌≡◌, ◌+◌, ◌∷◌, [], true, suc, reverse, get_or, set, sym, ap, ◌∙◌, subst, arith, lit<}
use Rattle.crp_plan.specs.Bay.{Position}
use Rattle.crp_bay.specs.Positions.{without_top, source, can_take, taken}
use Rattle.crp_bay.specs.Back.{place_of}
use Rattle.crp_thinning.specs.declared.step.Step.TheVariants.{Took}
use Rattle.crp_thinning.specs.Steps.{PlaceAndSteps, AreKept, trail_of}
use Rattle.crp_thinning.proofs.Forward.{fine_now, kept_taken, kept_on, room_on, next_fits, seen_on, trail_taken}
use Rattle.crp_thinning.proofs.track.Track.take.Goals as goal

pub overflow_add-self : goal.overflow_add-self
overflow_add-self c = let s : Position = place_of c.self.inside.heights.items c.self.inside.ordered c.self.inside.next c.self.inside.stacks in omega (arith, next_fits (reverse c.self.inside.steps.items) s c.self.invariant)

pub push-requires : goal.push-requires
push-requires c = let s : Position = place_of c.self.inside.heights.items c.self.inside.ordered c.self.inside.next c.self.inside.stacks in (lit< tt, room_on c.self.inside.steps.items s c.self.invariant)

pub invariant_of-self : goal.invariant_of-self
invariant_of-self c =
    let s : Position = place_of c.self.inside.heights.items c.self.inside.ordered c.self.inside.next c.self.inside.stacks in
    let can : can_take s ≡ true = subst (λ (v : PlaceAndSteps). can_take v.place ≡ true) (sym c.self.view_is) c.requires in
    let row_is : c.place_of_rank-row.result ≡ source s = c.place_of_rank-row.ensures.value in
    let n : c.self.inside.next + 1 ≡ suc c.self.inside.next = omega arith in
    kept_on c.self.inside.steps.items c.push.new.self.items (Took c.place_of_rank-row.result) (taken s) (place_of c.self.inside.heights.items c.self.inside.ordered (c.self.inside.next + 1) c.lift-rank.new.self)
    (subst (λ i. AreKept (Took i ∷ reverse c.self.inside.steps.items) (taken s)) (sym row_is) (kept_taken (reverse c.self.inside.steps.items) s c.self.invariant can))
    c.push.ensures.items
    (ap (λ k. place_of c.self.inside.heights.items c.self.inside.ordered k c.lift-rank.new.self) n
    ∙ ap (place_of c.self.inside.heights.items c.self.inside.ordered (suc c.self.inside.next)) (c.lift-rank.ensures.rest ∙ ap (λ i. set c.self.inside.stacks i (without_top (get_or c.self.inside.stacks i []))) row_is))

pub returns-clause-trail : goal.returns-clause-trail
returns-clause-trail c =
    let s : Position = place_of c.self.inside.heights.items c.self.inside.ordered c.self.inside.next c.self.inside.stacks in
    let can : can_take s ≡ true = subst (λ (v : PlaceAndSteps). can_take v.place ≡ true) (sym c.self.view_is) c.requires in
    let row_is : c.place_of_rank-row.result ≡ source s = c.place_of_rank-row.ensures.value in
    let n : c.self.inside.next + 1 ≡ suc c.self.inside.next = omega arith in
    let old = reverse c.self.inside.steps.items in
    seen_on c.self.inside.steps.items c.push.new.self.items (Took c.place_of_rank-row.result) (taken s) (place_of c.self.inside.heights.items c.self.inside.ordered (c.self.inside.next + 1) c.lift-rank.new.self)
    c.push.ensures.items
    (ap (λ k. place_of c.self.inside.heights.items c.self.inside.ordered k c.lift-rank.new.self) n
    ∙ ap (place_of c.self.inside.heights.items c.self.inside.ordered (suc c.self.inside.next)) (c.lift-rank.ensures.rest ∙ ap (λ i. set c.self.inside.stacks i (without_top (get_or c.self.inside.stacks i []))) row_is))
    ∙ ap (λ i. trail_of (Took i ∷ old) (taken s)) row_is
    ∙ trail_taken _ old s (fine_now old s c.self.invariant) can
    ∙ ap (λ (v : PlaceAndSteps). trail_of v.steps v.place) c.self.view_is
