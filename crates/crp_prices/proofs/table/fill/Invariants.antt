use Rattle.std.proofs.Common.{◌≤◌, slice_index}
use Rattle.crp_prices.specs.PriceTable.{price_in}
use Rattle.crp_prices.specs.Tables.{AreColumns}
use Rattle.crp_prices.proofs.table.fill.Given as goal

abbrev pub invariant-loop-i : goal.invariant-loop-i
invariant-loop-i l = record {
  within : l.i ≤ slice_index l.pass.starts l.low;
  are : AreColumns (price_in l.pass.table.now) l.pass.unit l.pass.ordered l.pass.jobs.now l.low l.i (slice_index l.pass.starts l.low) l.columns;
}

abbrev pub decreases-loop-i : goal.decreases-loop-i
decreases-loop-i l = l.i
