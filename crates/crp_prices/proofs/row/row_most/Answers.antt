use Rattle.std.proofs.Common.{arith, take, ap, ◌∙◌}
use Rattle.crp_prices.specs.PriceTable.{price_in}
use Rattle.crp_prices.specs.Pass.{best, row_pass}
use Rattle.crp_prices.proofs.Filling.{few_of}
use Rattle.crp_prices.proofs.Splitting.{least_most, Part, part_within, row_step, row_end, row_few}
use Rattle.crp_prices.proofs.row.row_most.Goals as goal

pub scope_brings-total-requires-clause-low : goal.scope_brings-total-requires-clause-low
scope_brings-total-requires-clause-low c = omega (arith, c.least_of-low.ensures, least_most c.args.pass.now.ordered (take c.scopes.end c.args.stack.now))

pub overflow_add-total : goal.overflow_add-total
overflow_add-total c =
    let part : Part (price_in c.args.pass.now.table.now) c.args.pass.now.unit c.args.pass.now.ordered c.args.pass.now.jobs.now c.args.height c.scopes.from c.args.stack.now c.scopes.end c.scopes.total c.scope_brings-total.result c.least_of-low.result (row_pass (price_in c.args.pass.now.table.now) c.args.pass.now.unit c.args.pass.now.ordered c.args.pass.now.jobs.now c.args.height c.args.stack.now) = record {
      within = c.scopes.invariant.within;
      low_is = c.least_of-low.ensures;
      brings_is = c.scope_brings-total.ensures.value ∙ ap (λ n. best (price_in c.args.pass.now.table.now) c.args.pass.now.unit c.args.pass.now.ordered c.args.pass.now.jobs.now n c.least_of-low.result c.scopes.from c.args.pass.now.jobs.now) c.saturating_sub-room.ensures;
      total_is = c.scopes.invariant.total;
    } in
    omega (arith, part_within (price_in c.args.pass.now.table.now) c.args.pass.now.unit c.args.pass.now.ordered c.args.pass.now.jobs.now c.args.height c.scopes.from c.args.stack.now c.scopes.end c.scopes.total c.scope_brings-total.result c.least_of-low.result (row_pass (price_in c.args.pass.now.table.now) c.args.pass.now.unit c.args.pass.now.ordered c.args.pass.now.jobs.now c.args.height c.args.stack.now) part, row_few (price_in c.args.pass.now.table.now) c.args.pass.now.unit c.args.pass.now.ordered 9999 c.args.pass.now.jobs.now (few_of c.args.pass.now c.requires.ready) c.args.height 8 98 c.args.stack.now c.requires.height (omega (arith, c.requires.ready.few)))

pub returns-then-low-pass-clause-value : goal.returns-then-low-pass-clause-value
returns-then-low-pass-clause-value c =
    let part : Part (price_in c.args.pass.now.table.now) c.args.pass.now.unit c.args.pass.now.ordered c.args.pass.now.jobs.now c.args.height c.scopes.from c.args.stack.now c.scopes.end c.scopes.total c.scope_brings-total.result c.least_of-low.result (row_pass (price_in c.args.pass.now.table.now) c.args.pass.now.unit c.args.pass.now.ordered c.args.pass.now.jobs.now c.args.height c.args.stack.now) = record {
      within = c.scopes.invariant.within;
      low_is = c.least_of-low.ensures;
      brings_is = c.scope_brings-total.ensures.value ∙ ap (λ n. best (price_in c.args.pass.now.table.now) c.args.pass.now.unit c.args.pass.now.ordered c.args.pass.now.jobs.now n c.least_of-low.result c.scopes.from c.args.pass.now.jobs.now) c.saturating_sub-room.ensures;
      total_is = c.scopes.invariant.total;
    } in
    row_end (price_in c.args.pass.now.table.now) c.args.pass.now.unit c.args.pass.now.ordered c.args.pass.now.jobs.now c.args.height c.scopes.from c.args.stack.now c.scopes.end c.scopes.total c.scope_brings-total.result c.least_of-low.result (row_pass (price_in c.args.pass.now.table.now) c.args.pass.now.unit c.args.pass.now.ordered c.args.pass.now.jobs.now c.args.height c.args.stack.now) part (omega arith)

pub returns-then-low-pass-clause-few : goal.returns-then-low-pass-clause-few
returns-then-low-pass-clause-few c =
    let part : Part (price_in c.args.pass.now.table.now) c.args.pass.now.unit c.args.pass.now.ordered c.args.pass.now.jobs.now c.args.height c.scopes.from c.args.stack.now c.scopes.end c.scopes.total c.scope_brings-total.result c.least_of-low.result (row_pass (price_in c.args.pass.now.table.now) c.args.pass.now.unit c.args.pass.now.ordered c.args.pass.now.jobs.now c.args.height c.args.stack.now) = record {
      within = c.scopes.invariant.within;
      low_is = c.least_of-low.ensures;
      brings_is = c.scope_brings-total.ensures.value ∙ ap (λ n. best (price_in c.args.pass.now.table.now) c.args.pass.now.unit c.args.pass.now.ordered c.args.pass.now.jobs.now n c.least_of-low.result c.scopes.from c.args.pass.now.jobs.now) c.saturating_sub-room.ensures;
      total_is = c.scopes.invariant.total;
    } in
    omega (arith, part_within (price_in c.args.pass.now.table.now) c.args.pass.now.unit c.args.pass.now.ordered c.args.pass.now.jobs.now c.args.height c.scopes.from c.args.stack.now c.scopes.end c.scopes.total c.scope_brings-total.result c.least_of-low.result (row_pass (price_in c.args.pass.now.table.now) c.args.pass.now.unit c.args.pass.now.ordered c.args.pass.now.jobs.now c.args.height c.args.stack.now) part, row_few (price_in c.args.pass.now.table.now) c.args.pass.now.unit c.args.pass.now.ordered 9999 c.args.pass.now.jobs.now (few_of c.args.pass.now c.requires.ready) c.args.height 8 98 c.args.stack.now c.requires.height (omega (arith, c.requires.ready.few)))

pub scopes-smaller : goal.scopes-smaller
scopes-smaller c =
    let part : Part (price_in c.args.pass.now.table.now) c.args.pass.now.unit c.args.pass.now.ordered c.args.pass.now.jobs.now c.args.height c.scopes.from c.args.stack.now c.scopes.end c.scopes.total c.scope_brings-total.result c.least_of-low.result (row_pass (price_in c.args.pass.now.table.now) c.args.pass.now.unit c.args.pass.now.ordered c.args.pass.now.jobs.now c.args.height c.args.stack.now) = record {
      within = c.scopes.invariant.within;
      low_is = c.least_of-low.ensures;
      brings_is = c.scope_brings-total.ensures.value ∙ ap (λ n. best (price_in c.args.pass.now.table.now) c.args.pass.now.unit c.args.pass.now.ordered c.args.pass.now.jobs.now n c.least_of-low.result c.scopes.from c.args.pass.now.jobs.now) c.saturating_sub-room.ensures;
      total_is = c.scopes.invariant.total;
    } in
    let r = row_step (price_in c.args.pass.now.table.now) c.args.pass.now.unit c.args.pass.now.ordered c.args.pass.now.jobs.now c.args.height c.scopes.from c.args.stack.now c.scopes.end c.standing-end.result c.scopes.total c.scope_brings-total.result c.least_of-low.result (row_pass (price_in c.args.pass.now.table.now) c.args.pass.now.unit c.args.pass.now.ordered c.args.pass.now.jobs.now c.args.height c.args.stack.now) part (omega arith) c.standing-end.ensures.within c.standing-end.ensures.stands in
    r.0

pub scopes-preserved : goal.scopes-preserved
scopes-preserved c =
    let part : Part (price_in c.args.pass.now.table.now) c.args.pass.now.unit c.args.pass.now.ordered c.args.pass.now.jobs.now c.args.height c.scopes.from c.args.stack.now c.scopes.end c.scopes.total c.scope_brings-total.result c.least_of-low.result (row_pass (price_in c.args.pass.now.table.now) c.args.pass.now.unit c.args.pass.now.ordered c.args.pass.now.jobs.now c.args.height c.args.stack.now) = record {
      within = c.scopes.invariant.within;
      low_is = c.least_of-low.ensures;
      brings_is = c.scope_brings-total.ensures.value ∙ ap (λ n. best (price_in c.args.pass.now.table.now) c.args.pass.now.unit c.args.pass.now.ordered c.args.pass.now.jobs.now n c.least_of-low.result c.scopes.from c.args.pass.now.jobs.now) c.saturating_sub-room.ensures;
      total_is = c.scopes.invariant.total;
    } in
    let r = row_step (price_in c.args.pass.now.table.now) c.args.pass.now.unit c.args.pass.now.ordered c.args.pass.now.jobs.now c.args.height c.scopes.from c.args.stack.now c.scopes.end c.standing-end.result c.scopes.total c.scope_brings-total.result c.least_of-low.result (row_pass (price_in c.args.pass.now.table.now) c.args.pass.now.unit c.args.pass.now.ordered c.args.pass.now.jobs.now c.args.height c.args.stack.now) part (omega arith) c.standing-end.ensures.within c.standing-end.ensures.stands in
    record {
      within = omega (arith, r.0, c.scopes.invariant.within);
      long = c.scope_brings-total.ensures.long;
      from = r.2;
      total = r.1;
    }
