use Rattle.std.proofs.Common.{◌≡◌, ◌≤◌, ◌∷◌, [], length, reverse, get_or, set, sym, ap, ◌∙◌, subst, arith, lit<}
use Rattle.crp_plan.specs.Bay.{Position}
use Rattle.crp_bay.specs.Positions.{top, without_top, source}
use Rattle.crp_bay.specs.Back.{place_of}
use Rattle.crp_thinned.specs.Thinned.{blocker, lifted}
use Rattle.crp_thinned.specs.Missing.{IsSoundlyThin}
use Rattle.crp_thinning.specs.declared.step.Step.TheVariants.{Lifted}
use Rattle.crp_thinning.specs.Steps.{PlaceAndSteps, AreKept, trail_of}
use Rattle.crp_thinning.proofs.Forward.{fine_now, Blocker, blocker_of, kept_lifted, kept_on, room_on, seen_on, trail_lifted}
use Rattle.crp_thinning.proofs.track.Track.lift.Goals as goal

pub lift-rank-requires-clause-there : goal.lift-rank-requires-clause-there
lift-rank-requires-clause-there c =
    let s : Position = place_of c.self.inside.heights.items c.self.inside.ordered c.self.inside.next c.self.inside.stacks in
    let thin : IsSoundlyThin s = subst (λ (v : PlaceAndSteps). IsSoundlyThin v.place) (sym c.self.view_is) c.requires.thin in
    let le : s.next ≤ s.ordered = subst (λ (v : PlaceAndSteps). v.place.next ≤ v.place.ordered) (sym c.self.view_is) c.requires.left in
    let b : Blocker s = blocker_of _ s (fine_now (reverse c.self.inside.steps.items) s c.self.invariant) thin le in let there = b.top_is.there in
    omega (arith, c.place_of_rank-from.ensures.value)

pub lift-rank-requires-clause-some : goal.lift-rank-requires-clause-some
lift-rank-requires-clause-some c =
    let s : Position = place_of c.self.inside.heights.items c.self.inside.ordered c.self.inside.next c.self.inside.stacks in
    let thin : IsSoundlyThin s = subst (λ (v : PlaceAndSteps). IsSoundlyThin v.place) (sym c.self.view_is) c.requires.thin in
    let le : s.next ≤ s.ordered = subst (λ (v : PlaceAndSteps). v.place.next ≤ v.place.ordered) (sym c.self.view_is) c.requires.left in
    let b : Blocker s = blocker_of _ s (fine_now (reverse c.self.inside.steps.items) s c.self.invariant) thin le in let some = b.top_is.some in
    omega (arith, ap (λ i. length (get_or c.self.inside.stacks i [])) (c.place_of_rank-from.ensures.value))

pub push-requires : goal.push-requires
push-requires c = let s : Position = place_of c.self.inside.heights.items c.self.inside.ordered c.self.inside.next c.self.inside.stacks in (lit< tt, room_on c.self.inside.steps.items s c.self.invariant)

pub invariant_of-self : goal.invariant_of-self
invariant_of-self c =
    let s : Position = place_of c.self.inside.heights.items c.self.inside.ordered c.self.inside.next c.self.inside.stacks in
    let thin : IsSoundlyThin s = subst (λ (v : PlaceAndSteps). IsSoundlyThin v.place) (sym c.self.view_is) c.requires.thin in
    let le : s.next ≤ s.ordered = subst (λ (v : PlaceAndSteps). v.place.next ≤ v.place.ordered) (sym c.self.view_is) c.requires.left in
    let row_is : c.place_of_rank-from.result ≡ source s = c.place_of_rank-from.ensures.value in
    let rank_is : c.lift-rank.result ≡ blocker s = c.lift-rank.ensures.value ∙ ap (λ i. top (get_or c.self.inside.stacks i [])) row_is in
    kept_on c.self.inside.steps.items c.push.new.self.items (Lifted c.place_of_rank-from.result c.lift-rank.result) (lifted s) (place_of c.self.inside.heights.items c.self.inside.ordered c.self.inside.next c.lift-rank.new.self)
    (subst (λ i. AreKept (Lifted i c.lift-rank.result ∷ reverse c.self.inside.steps.items) (lifted s)) (sym row_is)
    (subst (λ x. AreKept (Lifted (source s) x ∷ reverse c.self.inside.steps.items) (lifted s)) (sym rank_is) (kept_lifted (reverse c.self.inside.steps.items) s c.self.invariant thin le)))
    c.push.ensures.items
    (ap (place_of c.self.inside.heights.items c.self.inside.ordered c.self.inside.next) (c.lift-rank.ensures.rest ∙ ap (λ i. set c.self.inside.stacks i (without_top (get_or c.self.inside.stacks i []))) row_is))

pub returns-clause-trail : goal.returns-clause-trail
returns-clause-trail c =
    let s : Position = place_of c.self.inside.heights.items c.self.inside.ordered c.self.inside.next c.self.inside.stacks in
    let thin : IsSoundlyThin s = subst (λ (v : PlaceAndSteps). IsSoundlyThin v.place) (sym c.self.view_is) c.requires.thin in
    let le : s.next ≤ s.ordered = subst (λ (v : PlaceAndSteps). v.place.next ≤ v.place.ordered) (sym c.self.view_is) c.requires.left in
    let row_is : c.place_of_rank-from.result ≡ source s = c.place_of_rank-from.ensures.value in
    let rank_is : c.lift-rank.result ≡ blocker s = c.lift-rank.ensures.value ∙ ap (λ i. top (get_or c.self.inside.stacks i [])) row_is in
    let old = reverse c.self.inside.steps.items in
    seen_on c.self.inside.steps.items c.push.new.self.items (Lifted c.place_of_rank-from.result c.lift-rank.result) (lifted s) (place_of c.self.inside.heights.items c.self.inside.ordered c.self.inside.next c.lift-rank.new.self)
    c.push.ensures.items
    (ap (place_of c.self.inside.heights.items c.self.inside.ordered c.self.inside.next) (c.lift-rank.ensures.rest ∙ ap (λ i. set c.self.inside.stacks i (without_top (get_or c.self.inside.stacks i []))) row_is))
    ∙ ap (λ i. trail_of (Lifted i c.lift-rank.result ∷ old) (lifted s)) row_is
    ∙ ap (λ x. trail_of (Lifted (source s) x ∷ old) (lifted s)) rank_is
    ∙ trail_lifted _ old s (fine_now old s c.self.invariant) thin le
    ∙ ap (λ (v : PlaceAndSteps). v.place ∷ trail_of v.steps v.place) c.self.view_is
