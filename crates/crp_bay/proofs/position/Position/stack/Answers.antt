use Rattle.std.proofs.Common.{◌≡◌, ◌-◌, ◌<◌, length, slice_get, Some, refl, sym, ap, ◌∙◌, arith}
use Rattle.std.proofs.lemmas.Option.{slice_get_read}
use Rattle.crp_plan.specs.Bay.{Position}
use Rattle.crp_bay.specs.Back.{PlaceAndTrail, place_of}
use Rattle.crp_bay.proofs.Reaching.{reached_same_rows}
use Rattle.crp_bay.proofs.Reading.{few_ranks_in}
use Rattle.crp_bay.proofs.position.Position.stack.Goals as goal

pub bounds-deref-row : goal.bounds-deref-row
bounds-deref-row c =
    let s : Position = place_of c.self.inside.heights.items c.self.inside.ordered c.self.inside.next c.self.inside.stacks.items in
    omega (arith, reached_same_rows s c.self.invariant.reached, ap (λ (v : PlaceAndTrail). length v.place.heights) c.self.view_is, ap length c.deref.ensures.0)

pub returns-clause-value : goal.returns-clause-value
returns-clause-value c =
    let s : Position = place_of c.self.inside.heights.items c.self.inside.ordered c.self.inside.next c.self.inside.stacks.items in
    let lt : c.args.row - 1 < length c.deref.result.now = omega (arith, reached_same_rows s c.self.invariant.reached, ap (λ (v : PlaceAndTrail). length v.place.heights) c.self.view_is, ap length c.deref.ensures.0) in
    let here : slice_get c.deref.result.now (c.args.row - 1) ≡ Some c.index-deref-row.result = slice_get_read c.deref.result.now (length c.deref.result.now) (c.args.row - 1) c.index-deref-row.result refl lt c.index-deref-row.is in
    sym (ap (λ (v : PlaceAndTrail). slice_get v.place.stacks (c.args.row - 1)) c.self.view_is) ∙ sym (ap (λ v. slice_get v (c.args.row - 1)) c.deref.ensures.0) ∙ here ∙ ap Some (sym c.ranks.ensures.value)

pub returns-clause-ranks : goal.returns-clause-ranks
returns-clause-ranks c =
    let s : Position = place_of c.self.inside.heights.items c.self.inside.ordered c.self.inside.next c.self.inside.stacks.items in
    few_ranks_in c.self.inside.row_of s (c.args.row - 1) c.ranks.result.now c.self.invariant.located (ap (λ (v : PlaceAndTrail). slice_get v.place.stacks (c.args.row - 1)) c.self.view_is ∙ returns-clause-value c)
