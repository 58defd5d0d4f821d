use Rattle.std.proofs.Common.{◌≡◌, ◌≤◌, ℕ, List, ◌-◌, ◌++◌, ◌∷◌, [], length, reverse, get_or, set, sym, ap, ◌∙◌, subst, arith, lit<, Contains, length-set}
use Rattle.std.proofs.lemmas.List.{reverse-append}
use Rattle.crp_bay.proofs.Tops.{read_other}
use Rattle.crp_thinning.proofs.track.Track.put.Goals.{After-push}
use Rattle.crp_plan.specs.Rows.{occurrences}
use Rattle.crp_plan.specs.Bay.{Position}
use Rattle.crp_bay.specs.Positions.{top, without_top, source, stack_at, shifted}
use Rattle.crp_bay.specs.Back.{place_of}
use Rattle.crp_thinned.specs.Thinned.{blocker, good_rows}
use Rattle.crp_thinned.specs.Missing.{IsSoundlyThin}
use Rattle.crp_thinning.specs.declared.step.Step.TheVariants.{Put}
use Rattle.crp_thinning.specs.Steps.{PlaceAndSteps, AreKept, trail_of}
use Rattle.crp_thinning.proofs.Forward.{fine_now, fine_shifted, Blocker, blocker_of, Onto, onto_of, kept_shifted, kept_on, room_on, seen_on, trail_shifted}
use Rattle.crp_thinning.proofs.track.Track.put.Goals as goal

pub overflow_sub-to : goal.overflow_sub-to
overflow_sub-to c =
    let s : Position = place_of c.self.inside.heights.items c.self.inside.ordered c.self.inside.next c.self.inside.stacks in
    let thin : IsSoundlyThin s = subst (λ (v : PlaceAndSteps). IsSoundlyThin v.place) (sym c.self.view_is) c.requires.thin in
    let good : Contains (good_rows s) c.args.row = subst (λ (v : PlaceAndSteps). Contains (good_rows v.place) c.args.row) (sym c.self.view_is) c.requires.good in
    let w : Onto s c.args.row = onto_of _ s c.args.row (fine_now (reverse c.self.inside.steps.items) s c.self.invariant) good in
    w.counts

pub lift-rank-requires-clause-there : goal.lift-rank-requires-clause-there
lift-rank-requires-clause-there c =
    let s : Position = place_of c.self.inside.heights.items c.self.inside.ordered c.self.inside.next c.self.inside.stacks in
    let thin : IsSoundlyThin s = subst (λ (v : PlaceAndSteps). IsSoundlyThin v.place) (sym c.self.view_is) c.requires.thin in
    let good : Contains (good_rows s) c.args.row = subst (λ (v : PlaceAndSteps). Contains (good_rows v.place) c.args.row) (sym c.self.view_is) c.requires.good in
    let w : Onto s c.args.row = onto_of _ s c.args.row (fine_now (reverse c.self.inside.steps.items) s c.self.invariant) good in
    let b : Blocker s = blocker_of _ s (fine_now (reverse c.self.inside.steps.items) s c.self.invariant) thin w.unfinished in let there = b.top_is.there in
    omega (arith, c.place_of_rank-from.ensures.value)

pub lift-rank-requires-clause-some : goal.lift-rank-requires-clause-some
lift-rank-requires-clause-some c =
    let s : Position = place_of c.self.inside.heights.items c.self.inside.ordered c.self.inside.next c.self.inside.stacks in
    let thin : IsSoundlyThin s = subst (λ (v : PlaceAndSteps). IsSoundlyThin v.place) (sym c.self.view_is) c.requires.thin in
    let good : Contains (good_rows s) c.args.row = subst (λ (v : PlaceAndSteps). Contains (good_rows v.place) c.args.row) (sym c.self.view_is) c.requires.good in
    let w : Onto s c.args.row = onto_of _ s c.args.row (fine_now (reverse c.self.inside.steps.items) s c.self.invariant) good in
    let b : Blocker s = blocker_of _ s (fine_now (reverse c.self.inside.steps.items) s c.self.invariant) thin w.unfinished in let some = b.top_is.some in
    omega (arith, ap (λ i. length (get_or c.self.inside.stacks i [])) (c.place_of_rank-from.ensures.value))

pub land-requires-clause-there : goal.land-requires-clause-there
land-requires-clause-there c =
    let s : Position = place_of c.self.inside.heights.items c.self.inside.ordered c.self.inside.next c.self.inside.stacks in
    let thin : IsSoundlyThin s = subst (λ (v : PlaceAndSteps). IsSoundlyThin v.place) (sym c.self.view_is) c.requires.thin in
    let good : Contains (good_rows s) c.args.row = subst (λ (v : PlaceAndSteps). Contains (good_rows v.place) c.args.row) (sym c.self.view_is) c.requires.good in
    let w : Onto s c.args.row = onto_of _ s c.args.row (fine_now (reverse c.self.inside.steps.items) s c.self.invariant) good in
    let row_is : c.place_of_rank-from.result ≡ source s = c.place_of_rank-from.ensures.value in
    let less_is = c.lift-rank.ensures.rest ∙ ap (λ i. set c.self.inside.stacks i (without_top (get_or c.self.inside.stacks i []))) row_is in
    let there = w.there in
    omega (arith, ap length less_is, length-set c.self.inside.stacks (source s) (without_top (stack_at s (source s))))

pub land-requires-clause-room : goal.land-requires-clause-room
land-requires-clause-room c =
    let s : Position = place_of c.self.inside.heights.items c.self.inside.ordered c.self.inside.next c.self.inside.stacks in
    let thin : IsSoundlyThin s = subst (λ (v : PlaceAndSteps). IsSoundlyThin v.place) (sym c.self.view_is) c.requires.thin in
    let good : Contains (good_rows s) c.args.row = subst (λ (v : PlaceAndSteps). Contains (good_rows v.place) c.args.row) (sym c.self.view_is) c.requires.good in
    let w : Onto s c.args.row = onto_of _ s c.args.row (fine_now (reverse c.self.inside.steps.items) s c.self.invariant) good in
    let row_is : c.place_of_rank-from.result ≡ source s = c.place_of_rank-from.ensures.value in
    let less_is = c.lift-rank.ensures.rest ∙ ap (λ i. set c.self.inside.stacks i (without_top (get_or c.self.inside.stacks i []))) row_is in
    let short = w.short in
    omega (arith, ap (λ l. length (get_or l (c.args.row - 1) [])) less_is, ap length (read_other c.self.inside.stacks (source s) (c.args.row - 1) (without_top (stack_at s (source s))) w.apart))

pub land-requires-clause-once : goal.land-requires-clause-once
land-requires-clause-once c =
    let s : Position = place_of c.self.inside.heights.items c.self.inside.ordered c.self.inside.next c.self.inside.stacks in
    let thin : IsSoundlyThin s = subst (λ (v : PlaceAndSteps). IsSoundlyThin v.place) (sym c.self.view_is) c.requires.thin in
    let good : Contains (good_rows s) c.args.row = subst (λ (v : PlaceAndSteps). Contains (good_rows v.place) c.args.row) (sym c.self.view_is) c.requires.good in
    let f = fine_now (reverse c.self.inside.steps.items) s c.self.invariant in
    let w : Onto s c.args.row = onto_of _ s c.args.row f good in
    let row_is : c.place_of_rank-from.result ≡ source s = c.place_of_rank-from.ensures.value in
    let less_is = c.lift-rank.ensures.rest ∙ ap (λ i. set c.self.inside.stacks i (without_top (get_or c.self.inside.stacks i []))) row_is in
    let j = c.args.row - 1 in
    let rest = without_top (stack_at s (source s)) in
    let rank_is : c.lift-rank.result ≡ blocker s = c.lift-rank.ensures.value ∙ ap (λ i. top (get_or c.self.inside.stacks i [])) row_is in
    let is : set c.lift-rank.new.self j (get_or c.lift-rank.new.self j [] ++ c.lift-rank.result ∷ []) ≡ set (set c.self.inside.stacks (source s) rest) j (stack_at s j ++ blocker s ∷ []) =
    ap (λ x. set c.lift-rank.new.self j (get_or c.lift-rank.new.self j [] ++ x ∷ [])) rank_is
    ∙ ap (λ v. set v j (get_or v j [] ++ blocker s ∷ [])) less_is
    ∙ ap (λ v. set (set c.self.inside.stacks (source s) rest) j (v ++ blocker s ∷ [])) (read_other c.self.inside.stacks (source s) j rest w.apart) in
    subst (λ (l : List (List ℕ)). occurrences c.lift-rank.result l ≤ 1) (sym is) ((fine_shifted _ s c.args.row f thin good).once c.lift-rank.result)

pub push-requires : goal.push-requires
push-requires c = let s : Position = place_of c.self.inside.heights.items c.self.inside.ordered c.self.inside.next c.self.inside.stacks in (lit< tt, room_on c.self.inside.steps.items s c.self.invariant)

-- where it went
went_to : (c : After-push) → let s : Position = place_of c.self.inside.heights.items c.self.inside.ordered c.self.inside.next c.self.inside.stacks in (c.place_of_rank-from.result ≡ source s) × (place_of c.self.inside.heights.items c.self.inside.ordered c.self.inside.next c.land.new.self ≡ shifted s c.args.row)
went_to c =
    let s : Position = place_of c.self.inside.heights.items c.self.inside.ordered c.self.inside.next c.self.inside.stacks in
    let thin : IsSoundlyThin s = subst (λ (v : PlaceAndSteps). IsSoundlyThin v.place) (sym c.self.view_is) c.requires.thin in
    let good : Contains (good_rows s) c.args.row = subst (λ (v : PlaceAndSteps). Contains (good_rows v.place) c.args.row) (sym c.self.view_is) c.requires.good in
    let w : Onto s c.args.row = onto_of _ s c.args.row (fine_now (reverse c.self.inside.steps.items) s c.self.invariant) good in
    let row_is : c.place_of_rank-from.result ≡ source s = c.place_of_rank-from.ensures.value in
    let less_is = c.lift-rank.ensures.rest ∙ ap (λ i. set c.self.inside.stacks i (without_top (get_or c.self.inside.stacks i []))) row_is in
    let j = c.args.row - 1 in
    let rest = without_top (stack_at s (source s)) in
    let rank_is : c.lift-rank.result ≡ blocker s = c.lift-rank.ensures.value ∙ ap (λ i. top (get_or c.self.inside.stacks i [])) row_is in (
      row_is,
      ap (place_of c.self.inside.heights.items c.self.inside.ordered c.self.inside.next) (
          c.land.ensures
          ∙ ap (λ x. set c.lift-rank.new.self j (get_or c.lift-rank.new.self j [] ++ x ∷ [])) rank_is
          ∙ ap (λ v. set v j (get_or v j [] ++ blocker s ∷ [])) less_is
          ∙ ap (λ v. set (set c.self.inside.stacks (source s) rest) j (v ++ blocker s ∷ [])) (read_other c.self.inside.stacks (source s) j rest w.apart)),
    )

pub invariant_of-self : goal.invariant_of-self
invariant_of-self c =
    let s : Position = place_of c.self.inside.heights.items c.self.inside.ordered c.self.inside.next c.self.inside.stacks in
    let thin : IsSoundlyThin s = subst (λ (v : PlaceAndSteps). IsSoundlyThin v.place) (sym c.self.view_is) c.requires.thin in
    let good : Contains (good_rows s) c.args.row = subst (λ (v : PlaceAndSteps). Contains (good_rows v.place) c.args.row) (sym c.self.view_is) c.requires.good in
    let w : Onto s c.args.row = onto_of _ s c.args.row (fine_now (reverse c.self.inside.steps.items) s c.self.invariant) good in
    let g = went_to c in
    kept_on c.self.inside.steps.items c.push.new.self.items (Put c.place_of_rank-from.result (c.args.row - 1)) (shifted s c.args.row) (place_of c.self.inside.heights.items c.self.inside.ordered c.self.inside.next c.land.new.self)
    (subst (λ i. AreKept (Put i (c.args.row - 1) ∷ reverse c.self.inside.steps.items) (shifted s c.args.row)) (sym g.0) (kept_shifted (reverse c.self.inside.steps.items) s c.args.row c.self.invariant thin good))
    c.push.ensures.items
    g.1

pub returns-clause-value : goal.returns-clause-value
returns-clause-value c =
    let s : Position = place_of c.self.inside.heights.items c.self.inside.ordered c.self.inside.next c.self.inside.stacks in
    let g = went_to c in
    ap (λ l. record { place = place_of c.self.inside.heights.items c.self.inside.ordered c.self.inside.next c.land.new.self; steps = reverse l }) c.push.ensures.items
    ∙ ap (λ l. record { place = place_of c.self.inside.heights.items c.self.inside.ordered c.self.inside.next c.land.new.self; steps = l }) (reverse-append c.self.inside.steps.items (Put c.place_of_rank-from.result (c.args.row - 1) ∷ []))
    ∙ ap (λ t. record { place = t; steps = Put c.place_of_rank-from.result (c.args.row - 1) ∷ reverse c.self.inside.steps.items }) g.1
    ∙ ap (λ i. record { place = shifted s c.args.row; steps = Put i (c.args.row - 1) ∷ reverse c.self.inside.steps.items }) g.0
    ∙ ap (λ (v : PlaceAndSteps). record { place = shifted v.place c.args.row; steps = Put (source v.place) (c.args.row - 1) ∷ v.steps }) c.self.view_is

pub returns-clause-trail : goal.returns-clause-trail
returns-clause-trail c =
    let s : Position = place_of c.self.inside.heights.items c.self.inside.ordered c.self.inside.next c.self.inside.stacks in
    let thin : IsSoundlyThin s = subst (λ (v : PlaceAndSteps). IsSoundlyThin v.place) (sym c.self.view_is) c.requires.thin in
    let good : Contains (good_rows s) c.args.row = subst (λ (v : PlaceAndSteps). Contains (good_rows v.place) c.args.row) (sym c.self.view_is) c.requires.good in
    let g = went_to c in
    let old = reverse c.self.inside.steps.items in
    seen_on c.self.inside.steps.items c.push.new.self.items (Put c.place_of_rank-from.result (c.args.row - 1)) (shifted s c.args.row) (place_of c.self.inside.heights.items c.self.inside.ordered c.self.inside.next c.land.new.self)
    c.push.ensures.items g.1
    ∙ ap (λ i. trail_of (Put i (c.args.row - 1) ∷ old) (shifted s c.args.row)) g.0
    ∙ trail_shifted _ old s c.args.row (fine_now old s c.self.invariant) thin good
    ∙ ap (λ (v : PlaceAndSteps). v.place ∷ trail_of v.steps v.place) c.self.view_is
