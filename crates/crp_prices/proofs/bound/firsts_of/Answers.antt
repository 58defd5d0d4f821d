use Rattle.std.proofs.Common.{arith, ◌≡◌, ◌-◌, ◌+◌, [], drop, ap}
use Rattle.std.specs.Prelude.{sum_by}
use Rattle.std.proofs.lemmas.List.{drop_all}
use Rattle.crp_plan.specs.Bay.{Position}
use Rattle.crp_bay.proofs.Reaching.{reached_ordered, reached_same_rows}
use Rattle.crp_prices.specs.Prices.{firsts_in}
use Rattle.crp_prices.specs.PriceTable.{price_in}
use Rattle.crp_prices.proofs.Summing.{rows_step}
use Rattle.crp_prices.proofs.bound.firsts_of.Goals as goal

pub firsts_in-sum-requires-clause-ordered : goal.firsts_in-sum-requires-clause-ordered
firsts_in-sum-requires-clause-ordered c = omega (arith, reached_ordered c.args.position.now.place c.ordered.ensures.reached, c.ordered.ensures.value)

pub loop-row-preserved : goal.loop-row-preserved
loop-row-preserved c =
    let s : Position = c.args.position.now.place in
    let next : c.loop-row.row + 1 - 1 ≡ c.loop-row.row - 1 + 1 = omega (arith, c.loop-row.invariant.some) in
    let ordered_is : c.ordered.result ≡ s.ordered = c.ordered.ensures.value in
    record {
      some = omega arith;
      few = omega (arith, c.loop-row.invariant.few, c.loop-row.invariant.some, c.firsts_in-sum.ensures.few);
      is = omega (
        arith,
        c.loop-row.invariant.is,
        rows_step (λ stack. firsts_in (price_in c.args.prices.now) s.ordered [] stack) (c.loop-row.row - 1) s.stacks c.stack.result.now c.stack.ensures.value,
        ap (λ n. sum_by (λ stack. firsts_in (price_in c.args.prices.now) s.ordered [] stack) (drop n s.stacks)) next,
        c.firsts_in-sum.ensures.value,
        ap (λ n. firsts_in (price_in c.args.prices.now) n [] c.stack.result.now) ordered_is,
      );
    }

pub returns-clause-value : goal.returns-clause-value
returns-clause-value c =
    let s : Position = c.args.position.now.place in
    let gone : drop (c.loop-row.row - 1) s.stacks ≡ [] =
    drop_all (c.loop-row.row - 1) s.stacks (omega (arith, c.rows-row-end.ensures.value, reached_same_rows s c.rows-row-end.ensures.reached)) in
    omega (arith, c.loop-row.invariant.is, ap (sum_by (λ stack. firsts_in (price_in c.args.prices.now) s.ordered [] stack)) gone)
