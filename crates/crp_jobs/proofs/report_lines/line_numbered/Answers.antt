use Rattle.std.proofs.Common.{◌≡◌, ◌∙◌, ◌+◌, ◌-◌, length, sym, ap, arith, tests}
use Rattle.std.specs.Prelude.{slice_get}
use Rattle.crp_follow.specs.Lines.{pieces_of}
use Rattle.crp_jobs.proofs.LineSteps.{no_line, no_pieces, passed_more}
use Rattle.crp_jobs.proofs.report_lines.line_numbered.Goals as goal

pub loop-preserved : goal.loop-preserved
loop-preserved c k =
    let before = c.loop.auto.counter in
    let e : c.loop.counter + 1 - 1 + k ≡ c.loop.counter - 1 + 1 + k = omega (arith, before) in
    ap (slice_get (pieces_of c.args.text.now)) e
    ∙ passed_more c.args.text.now c.loop.rest.now c.in-Some.behind.now (c.loop.counter - 1) c.loop.invariant c.in-Some.ensures.behind k

pub returns-in_default : goal.returns-in_default
returns-in_default c =
    let before = c.loop.auto.counter in
    let last : c.args.number - 1 ≡ c.loop.counter - 1 + (c.args.number - c.loop.counter - 1 + 1) = omega (arith, before, c.loop-test.true) in
    sym (no_line c.args.text.now c.args.number (λ e. absurd (omega (arith, e, c.if-number-eq0.false)))
    (ap (slice_get (pieces_of c.args.text.now)) last ∙ c.loop.invariant (c.args.number - c.loop.counter - 1 + 1) ∙ c.in_default.ensures.last (c.args.number - c.loop.counter - 1)))

pub returns-then-is_empty : goal.returns-then-is_empty
returns-then-is_empty c =
    let before = c.loop.auto.counter in
    let none : length c.loop.rest.now ≡ 0 = grind (arith, tests, c.is_empty.ensures, c.if-is_empty.true) in
    let last : c.args.number - 1 ≡ c.loop.counter - 1 + 0 = omega (arith, before, c.loop-test.false, c.loop.auto.counter-end, c.if-number-eq0.false) in
    sym (no_line c.args.text.now c.args.number (λ e. absurd (omega (arith, e, c.if-number-eq0.false)))
    (ap (slice_get (pieces_of c.args.text.now)) last ∙ c.loop.invariant 0 ∙ no_pieces c.loop.rest.now none))
