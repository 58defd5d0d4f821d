use Rattle.std.proofs.Common.{◌≡◌, ◌≢◌, ◌-◌, ℕ, Some, ap, subst, length, arith, tests}
use Rattle.crp_places.specs.Segments.{behind_segments}
use Rattle.crp_places.proofs.SegmentSteps.{place-is, place-none, none-spelled}
use Rattle.crp_places.proofs.segments.segment_at.Goals as goal

pub returns-then-is_empty-clause-place : goal.returns-then-is_empty-clause-place
returns-then-is_empty-clause-place c offset at =
    let none : length c.loop.rest.now ≡ 0 = grind (arith, tests, c.is_empty.ensures, c.if-is_empty.true) in
    absurd (place-none c.args.text.now c.args.number offset (c.loop.counter - 1) _ _ c.loop.rest.now at c.opened.ensures.opened c.loop.invariant.0 none (omega (arith, c.loop-test.true, c.loop.auto.counter)))

pub returns-then-is_empty-2-clause-place : goal.returns-then-is_empty-2-clause-place
returns-then-is_empty-2-clause-place c offset at =
    let none : length c.loop.rest.now ≡ 0 = grind (arith, tests, c.is_empty-2.ensures, c.if-is_empty-2.true) in
    absurd (place-none c.args.text.now c.args.number offset (c.loop.counter - 1) _ _ c.loop.rest.now at c.opened.ensures.opened c.loop.invariant.0 none
    (omega (arith, c.loop.auto.counter, c.loop.auto.counter-end (grind (arith, c.if-number-eq0.false)))))

pub returns-clause-place : goal.returns-clause-place
returns-clause-place c offset at =
    let same : c.loop.counter ≡ c.args.number = omega (arith, c.loop-test.false, c.loop.auto.counter-end (grind (arith, c.if-number-eq0.false))) in
    let behind = subst (λ (n : ℕ). behind_segments c.opened.result.0 c.opened.result.1.now (n - 1) ≡ c.loop.rest.now) same c.loop.invariant.0 in
    ap Some (place-is c.args.text.now c.args.number offset _ _ c.loop.rest.now at c.opened.ensures.opened behind)

pub returns-clause-none : goal.returns-clause-none
returns-clause-none c count few less =
    let same : c.loop.counter ≡ c.args.number = omega (arith, c.loop-test.false, c.loop.auto.counter-end (grind (arith, c.if-number-eq0.false))) in
    let behind = subst (λ (n : ℕ). behind_segments c.opened.result.0 c.opened.result.1.now (n - 1) ≡ c.loop.rest.now) same c.loop.invariant.0 in
    let some : length c.loop.rest.now ≢ 0 = λ e. absurd (grind (arith, tests, e, c.is_empty-2.ensures, c.if-is_empty-2.false)) in
    absurd (none-spelled c.args.text.now c.args.number count _ _ c.loop.rest.now few less c.opened.ensures.opened behind some)
