use Rattle.std.proofs.Common.{refl, sym, ◌∙◌, arith, add-one}
use Rattle.crp_movins.proofs.Least.{faultless-before}
use Rattle.crp_movins.proofs.ordering.ordering_before.Goals as goal
use Rattle.crp_movins.proofs.ordering.ordering_before.Goals.{then-orders_this, else-orders_this}

pub after-standing-requires-clause-faultless : goal.after-standing-requires-clause-faultless
after-standing-requires-clause-faultless c =
    faultless-before c.args.at.now.segments.now c.args.at.now.loading.now c.args.at.now.number c.requires.faultless c.segments.number (omega (arith, c.segments-test.true))

pub segments-preserved : goal.segments-preserved
segments-preserved c =
    let segments = c.args.at.now.segments.now in
    let loading = c.args.at.now.loading.now in
    let container = c.args.container.now in
    let n = c.segments.number in (
      omega (arith, c.segments-test.true),
      c.after-standing.ensures,
      elim c.if-orders_this.branch [
        | then-orders_this w ↦ w.found-is ∙ rw (add-one n, sym c.orders_this.ensures ∙ w.if-orders_this.true) refl
        | else-orders_this w ↦ w.found-is ∙ c.segments.invariant.2 ∙ rw (add-one n, sym c.orders_this.ensures ∙ w.if-orders_this.false) refl
      ],
    )
