use Rattle.std.proofs.Common.{arith, ◌-◌, sum, sym, ap, ◌∙◌, subst}
use Rattle.std.proofs.lemmas.Grind.{common_steps}
use Rattle.crp_bay.proofs.Reaching.{reached_ordered}
use Rattle.std.proofs.lemmas.List.Sums.{sum_by_push}
use Rattle.crp_prices.specs.PriceTable.{price_in}
use Rattle.crp_prices.specs.Prices.{AreMost}
use Rattle.crp_prices.specs.Pass.{row_pass}
use Rattle.crp_prices.specs.Tables.{AreReadable}
use Rattle.crp_prices.proofs.Summing.{few_height, pass_mosts, passes_put, passes_done}
use Rattle.crp_prices.proofs.mosts.mosts_of.Goals as goal

pub inners_of-requires-clause-ready : goal.inners_of-requires-clause-ready
inners_of-requires-clause-ready c = record {
  few = omega (arith, c.ordered-ordered.ensures.value, reached_ordered c.args.position.now.place c.ordered-ordered.ensures.reached);
  long = c.table.ensures.long;
  prices = λ rank turn. omega (arith, c.table.ensures.few rank turn, ap (λ l. price_in l rank turn) c.table.ensures.value);
  readable = subst AreReadable (sym c.as_slice-jobs.ensures.value) c.in_ok-listed.ensures.readable;
  starts = c.starts_of.ensures;
}

pub row_most-requires-clause-ready : goal.row_most-requires-clause-ready
row_most-requires-clause-ready c = record {
  few = omega (arith, c.ordered-ordered.ensures.value, reached_ordered c.args.position.now.place c.ordered-ordered.ensures.reached);
  long = c.table.ensures.long;
  prices = λ rank turn. omega (arith, c.table.ensures.few rank turn, ap (λ l. price_in l rank turn) c.table.ensures.value);
  readable = subst AreReadable (sym c.as_slice-jobs.ensures.value) c.in_ok-listed.ensures.readable;
  starts = c.starts_of.ensures;
}

pub row_most-requires-clause-height : goal.row_most-requires-clause-height
row_most-requires-clause-height c = few_height c.args.position.now.place c.ordered-ordered.ensures.reached (c.loop-row.row - 1) c.height.result c.height.ensures.value

pub loop-row-preserved : goal.loop-row-preserved
loop-row-preserved c = record {
  some = omega arith;
  each = omega (arith, c.loop-row.invariant.each, c.push.ensures.len);
  few = omega (arith, c.loop-row.invariant.few, c.loop-row.invariant.some, c.row_most.ensures.few, ap (λ l. sum l) c.push.ensures.items, sum_by_push (λ x. x) c.loop-row.mosts.items c.row_most.result);
  long = grind (arith, common_steps);
  are = passes_put (price_in c.args.prices.now) c.args.unit c.args.position.now.place c.as_slice-jobs.result.now c.ordered-ordered.result c.loop-row.row c.height.result c.stack.result.now
      c.loop-row.mosts.items c.push.new.self.items c.row_most.result c.loop-row.invariant.some c.height.ensures.value c.stack.ensures.value
      (c.as_slice-jobs.ensures.value ∙ c.in_ok-listed.ensures.value) c.ordered-ordered.ensures.value
      (c.row_most.ensures.value ∙ ap (λ l. row_pass (price_in l) c.args.unit c.ordered-ordered.result c.as_slice-jobs.result.now c.height.result c.stack.result.now) c.table.ensures.value)
      c.push.ensures.items c.loop-row.invariant.are;
}

pub returns-clause-most : goal.returns-clause-most
returns-clause-most c =
    subst (AreMost (price_in c.args.prices.now) c.args.unit c.args.position.now.place)
    (sym (passes_done (price_in c.args.prices.now) c.args.unit c.args.position.now.place c.loop-row.row c.loop-row.mosts.items (omega (arith, c.rows-row-end.ensures.value)) c.loop-row.invariant.are))
    (pass_mosts (price_in c.args.prices.now) c.args.unit c.args.position.now.place c.ordered-ordered.ensures.reached)
