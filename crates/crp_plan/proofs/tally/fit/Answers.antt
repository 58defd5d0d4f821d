use Rattle.std.proofs.Common.{◌∙◌, length, refl, sym, ap, arith}
use Rattle.crp_plan.specs.Faults.{stacks_of}
use Rattle.crp_plan.proofs.Tallies.{length-stacks_of}
use Rattle.crp_plan.proofs.Heights.{fit_from, fit_to, stack_at}
use Rattle.crp_plan.proofs.tally.fit.Goals as goal

pub returns-then-len-heights : goal.returns-then-len-heights
returns-then-len-heights c = (
  λ e. cc,
  λ fit.
      let i = c.loop-i.i in
      let low = fit_to c.args.heights.now (stacks_of c.args.stacks.now) fit i in
      let same = stack_at c.args.stacks.now i c.index-stacks-i.result c.loop-i-test.true ∙ ap (λ row. row.items) (sym c.index-stacks-i.is) in
      absurd (omega (arith, low, ap length same, c.if-len-heights.true, c.len.ensures)),
)

pub returns : goal.returns
returns c = (
  λ e.
      fit_from c.args.heights.now (stacks_of c.args.stacks.now) (c.requires ∙ sym (length-stacks_of c.args.stacks.now))
      (λ k lt. c.loop-i.invariant k (omega (arith, lt, length-stacks_of c.args.stacks.now, c.loop-i-test.false))),
  λ fit. refl,
)
