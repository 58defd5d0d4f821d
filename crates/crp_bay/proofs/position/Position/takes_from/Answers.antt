use Rattle.std.proofs.Common.{◌≡◌, ◌-◌, ◌<◌, ◌≤◌, [], length, get_or, sym, ap, ◌∙◌, subst, arith, nat_lt}
use Rattle.crp_plan.specs.Bay.{Position}
use Rattle.crp_bay.specs.Positions.{source, can_shift}
use Rattle.crp_bay.proofs.Reaching.{reached_same_rows}
use Rattle.crp_bay.specs.Back.{PlaceAndTrail, place_of}
use Rattle.crp_bay.proofs.Tops.{any_default}
use Rattle.crp_bay.proofs.Testing.{stands_there, asks_room}
use Rattle.crp_bay.proofs.position.Position.takes_from.Goals as goal

pub returns-then-row-from : goal.returns-then-row-from
returns-then-row-from c =
    stands_there c.args.self.now.place c.args.row c.requires.leaves c.requires.counts (omega (arith, c.requires.from, c.requires.counts, c.if-row-from.true))

pub bounds-deref-index : goal.bounds-deref-index
bounds-deref-index c =
    omega (arith, c.requires.there, c.requires.counts, reached_same_rows _ c.self.invariant.reached, ap length c.deref.ensures.0, ap (λ (v : PlaceAndTrail). length v.place.heights) c.self.view_is)

pub returns : goal.returns
returns c =
    let s : Position = place_of c.self.inside.heights.items c.self.inside.ordered c.self.inside.next c.self.inside.stacks.items in
    let lt : c.args.row - 1 < length c.self.inside.stacks.items = omega (arith, c.requires.there, c.requires.counts, reached_same_rows _ c.self.invariant.reached, ap (λ (v : PlaceAndTrail). length v.place.heights) c.self.view_is) in
    let here = any_default c.self.inside.stacks.items (c.args.row - 1) [] c.index-deref-index.result lt ∙ sym (ap (λ v. get_or v (c.args.row - 1) c.index-deref-index.result) c.deref.ensures.0) ∙ sym c.index-deref-index.is in
    let leaves : s.next ≤ s.ordered = omega (arith, c.requires.leaves, ap (λ (v : PlaceAndTrail). v.place.next) c.self.view_is, ap (λ (v : PlaceAndTrail). v.place.ordered) c.self.view_is) in
    let apart : source s ≡ c.args.row - 1 → ⊥ = λ q. c.if-row-from.false (omega (arith, q, c.requires.from, c.requires.counts, ap (λ (v : PlaceAndTrail). source v.place) c.self.view_is)) in
    let e = asks_room s c.args.row _ _ leaves c.requires.counts apart here (ap (λ v. get_or v (c.args.row - 1) 0) (sym c.deref-2.ensures.0)) in
    subst (λ (v : PlaceAndTrail). nat_lt c.height.result (get_or c.deref-2.result.now (c.args.row - 1) 0) ≡ can_shift v.place c.args.row) c.self.view_is
    (ap (λ n. nat_lt n (get_or c.deref-2.result.now (c.args.row - 1) 0)) c.height.ensures.value ∙ e)
