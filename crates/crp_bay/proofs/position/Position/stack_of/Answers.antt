use Rattle.std.proofs.Common.{◌≡◌, ◌<◌, length, get_or, slice_get, Some, refl, sym, ap, ◌∙◌, arith}
use Rattle.std.proofs.lemmas.Option.{slice_get_read}
use Rattle.crp_plan.specs.Bay.{Position}
use Rattle.crp_bay.specs.Positions.{place}
use Rattle.crp_bay.specs.Back.{PlaceAndTrail, place_of}
use Rattle.crp_bay.proofs.Reaching.{reached_same_rows}
use Rattle.crp_bay.proofs.Reading.{Waits, waits_there, few_ranks_in}
use Rattle.crp_bay.proofs.position.Position.stack_of.Goals as goal

pub bounds-self-inside-rank : goal.bounds-self-inside-rank
bounds-self-inside-rank c =
    let s : Position = place_of c.self.inside.heights.items c.self.inside.ordered c.self.inside.next c.self.inside.stacks.items in
    let w : Waits c.self.inside.row_of s c.args.rank = waits_there c.self.inside.row_of s c.args.rank c.self.invariant.located (omega (arith, ap (λ (v : PlaceAndTrail). v.place.next) c.self.view_is)) (omega (arith, ap (λ (v : PlaceAndTrail). v.place.ordered) c.self.view_is)) in
    let few = w.few in omega arith

pub bounds-deref-index : goal.bounds-deref-index
bounds-deref-index c =
    let s : Position = place_of c.self.inside.heights.items c.self.inside.ordered c.self.inside.next c.self.inside.stacks.items in
    let w : Waits c.self.inside.row_of s c.args.rank = waits_there c.self.inside.row_of s c.args.rank c.self.invariant.located (omega (arith, ap (λ (v : PlaceAndTrail). v.place.next) c.self.view_is)) (omega (arith, ap (λ (v : PlaceAndTrail). v.place.ordered) c.self.view_is)) in
    let row = w.row in let there = w.there in
    omega (arith, ap length c.deref.ensures.0)

pub returns-clause-index : goal.returns-clause-index
returns-clause-index c =
    let s : Position = place_of c.self.inside.heights.items c.self.inside.ordered c.self.inside.next c.self.inside.stacks.items in
    let w : Waits c.self.inside.row_of s c.args.rank = waits_there c.self.inside.row_of s c.args.rank c.self.invariant.located (omega (arith, ap (λ (v : PlaceAndTrail). v.place.next) c.self.view_is)) (omega (arith, ap (λ (v : PlaceAndTrail). v.place.ordered) c.self.view_is)) in
    w.row ∙ ap (λ (v : PlaceAndTrail). place c.args.rank v.place.stacks) c.self.view_is

pub returns-clause-there : goal.returns-clause-there
returns-clause-there c =
    let s : Position = place_of c.self.inside.heights.items c.self.inside.ordered c.self.inside.next c.self.inside.stacks.items in
    let w : Waits c.self.inside.row_of s c.args.rank = waits_there c.self.inside.row_of s c.args.rank c.self.invariant.located (omega (arith, ap (λ (v : PlaceAndTrail). v.place.next) c.self.view_is)) (omega (arith, ap (λ (v : PlaceAndTrail). v.place.ordered) c.self.view_is)) in
    let row = w.row in let there = w.there in
    omega (arith, reached_same_rows s c.self.invariant.reached, ap (λ (v : PlaceAndTrail). length v.place.heights) c.self.view_is)

pub returns-clause-value : goal.returns-clause-value
returns-clause-value c =
    let s : Position = place_of c.self.inside.heights.items c.self.inside.ordered c.self.inside.next c.self.inside.stacks.items in
    let w : Waits c.self.inside.row_of s c.args.rank = waits_there c.self.inside.row_of s c.args.rank c.self.invariant.located (omega (arith, ap (λ (v : PlaceAndTrail). v.place.next) c.self.view_is)) (omega (arith, ap (λ (v : PlaceAndTrail). v.place.ordered) c.self.view_is)) in
    let row = w.row in let there = w.there in
    let lt : get_or c.self.inside.row_of c.args.rank 0 < length c.deref.result.now = omega (arith, ap length c.deref.ensures.0) in
    let here : slice_get c.deref.result.now (get_or c.self.inside.row_of c.args.rank 0) ≡ Some c.index-deref-index.result = slice_get_read c.deref.result.now (length c.deref.result.now) (get_or c.self.inside.row_of c.args.rank 0) c.index-deref-index.result refl lt c.index-deref-index.is in
    sym (ap (λ (v : PlaceAndTrail). slice_get v.place.stacks (get_or c.self.inside.row_of c.args.rank 0)) c.self.view_is) ∙ sym (ap (λ v. slice_get v (get_or c.self.inside.row_of c.args.rank 0)) c.deref.ensures.0) ∙ here ∙ ap Some (sym c.ranks.ensures.value)

pub returns-clause-ranks : goal.returns-clause-ranks
returns-clause-ranks c =
    let s : Position = place_of c.self.inside.heights.items c.self.inside.ordered c.self.inside.next c.self.inside.stacks.items in
    few_ranks_in c.self.inside.row_of s (get_or c.self.inside.row_of c.args.rank 0) c.ranks.result.now c.self.invariant.located (ap (λ (v : PlaceAndTrail). slice_get v.place.stacks (get_or c.self.inside.row_of c.args.rank 0)) c.self.view_is ∙ returns-clause-value c)
