use Rattle.std.proofs.Common.{◌≡◌, ◌≢◌, ◌+◌, ◌-◌, ◌∙◌, ℕ, suc, sym, ap, subst, arith, length, tests}
use Rattle.edi_text.specs.Reading.{after_line_ends}
use Rattle.crp_places.proofs.RecordSteps.{IsBehind, behind-start, behind-more, start-none}
use Rattle.crp_places.proofs.records.record_at.Goals as goal

pub loop-init : goal.loop-init
loop-init c = (
  omega (arith, c.skip_line_ends-rest.ensures.shorter, c.without_mark.ensures.shorter),
  behind-start c.args.separator c.args.text.now _ (c.skip_line_ends-rest.ensures.passed ∙ ap after_line_ends c.without_mark.ensures.stripped),
)

pub returns-then-is_empty-clause-place : goal.returns-then-is_empty-clause-place
returns-then-is_empty-clause-place c =
    let none : length c.loop.rest.now ≡ 0 = grind (arith, tests, c.is_empty.ensures, c.if-is_empty.true) in
    let before = c.loop.auto.counter in
    sym (start-none c.args.separator c.args.text.now c.args.number (c.loop.counter - 1) c.loop.rest.now c.loop.invariant.1 none (omega (arith, c.loop-test.true, before)))

pub loop-preserved : goal.loop-preserved
loop-preserved c =
    let some : length c.loop.rest.now ≢ 0 = λ e. absurd (grind (arith, tests, e, c.is_empty.ensures, c.if-is_empty.false)) in
    let before = c.loop.auto.counter in
    let next : suc (c.loop.counter - 1) ≡ c.loop.counter + 1 - 1 = omega (arith, before) in
    let more = behind-more c.args.separator c.args.text.now (c.loop.counter - 1) c.loop.rest.now c.after_record.result.now _ c.loop.invariant.1 some c.after_record.ensures.left c.skip_line_ends-rest-in-loop.ensures.passed in (
      omega (arith, c.loop.invariant.0, c.skip_line_ends-rest-in-loop.ensures.shorter, c.after_record.ensures.shorter),
      subst (λ (n : ℕ). IsBehind c.args.separator c.args.text.now n c.skip_line_ends-rest-in-loop.result.now) next more,
    )
