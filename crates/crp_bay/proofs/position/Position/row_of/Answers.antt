use Rattle.std.proofs.Common.{◌+◌, length, ap, ◌∙◌, arith}
use Rattle.crp_plan.specs.Bay.{Position}
use Rattle.crp_bay.specs.Positions.{place}
use Rattle.crp_bay.specs.Back.{PlaceAndTrail, place_of}
use Rattle.crp_bay.proofs.Reaching.{reached_rows, reached_same_rows}
use Rattle.crp_bay.proofs.Reading.{Waits, waits_there}
use Rattle.crp_bay.proofs.position.Position.row_of.Goals as goal

pub bounds-self-inside-rank : goal.bounds-self-inside-rank
bounds-self-inside-rank c =
    let s : Position = place_of c.self.inside.heights.items c.self.inside.ordered c.self.inside.next c.self.inside.stacks.items in
    let w : Waits c.self.inside.row_of s c.args.rank = waits_there c.self.inside.row_of s c.args.rank c.self.invariant.located (omega (arith, ap (λ (v : PlaceAndTrail). v.place.next) c.self.view_is)) (omega (arith, ap (λ (v : PlaceAndTrail). v.place.ordered) c.self.view_is)) in
    let few = w.few in omega arith

pub overflow_add-result : goal.overflow_add-result
overflow_add-result c =
    let s : Position = place_of c.self.inside.heights.items c.self.inside.ordered c.self.inside.next c.self.inside.stacks.items in
    let w : Waits c.self.inside.row_of s c.args.rank = waits_there c.self.inside.row_of s c.args.rank c.self.invariant.located (omega (arith, ap (λ (v : PlaceAndTrail). v.place.next) c.self.view_is)) (omega (arith, ap (λ (v : PlaceAndTrail). v.place.ordered) c.self.view_is)) in
    let r = reached_rows s c.self.invariant.reached in let row = w.row in let there = w.there in
    omega (arith, r.1, reached_same_rows s c.self.invariant.reached)

pub returns-clause-value : goal.returns-clause-value
returns-clause-value c =
    let s : Position = place_of c.self.inside.heights.items c.self.inside.ordered c.self.inside.next c.self.inside.stacks.items in
    let w : Waits c.self.inside.row_of s c.args.rank = waits_there c.self.inside.row_of s c.args.rank c.self.invariant.located (omega (arith, ap (λ (v : PlaceAndTrail). v.place.next) c.self.view_is)) (omega (arith, ap (λ (v : PlaceAndTrail). v.place.ordered) c.self.view_is)) in
    ap (λ n. n + 1) (w.row ∙ ap (λ (v : PlaceAndTrail). place c.args.rank v.place.stacks) c.self.view_is)

pub returns-clause-there : goal.returns-clause-there
returns-clause-there c =
    let s : Position = place_of c.self.inside.heights.items c.self.inside.ordered c.self.inside.next c.self.inside.stacks.items in
    let w : Waits c.self.inside.row_of s c.args.rank = waits_there c.self.inside.row_of s c.args.rank c.self.invariant.located (omega (arith, ap (λ (v : PlaceAndTrail). v.place.next) c.self.view_is)) (omega (arith, ap (λ (v : PlaceAndTrail). v.place.ordered) c.self.view_is)) in
    let row = w.row in let there = w.there in
    omega (arith, reached_same_rows s c.self.invariant.reached, ap (λ (v : PlaceAndTrail). length v.place.heights) c.self.view_is)
