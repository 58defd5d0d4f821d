use Rattle.std.proofs.Common.{◌≡◌, ◌+◌, length}
use Rattle.crp_prices.specs.PriceTable.{price_in}
use Rattle.crp_prices.specs.Tables.{AreInner}
use Rattle.crp_prices.proofs.table.inners_of.Given as goal

abbrev pub invariant-loop-rank : goal.invariant-loop-rank
invariant-loop-rank l = record {
  long : length l.columns ≡ length l.pass.jobs.now + 1;
  inner : AreInner (price_in l.pass.table.now) l.pass.unit l.pass.ordered l.pass.jobs.now l.rank l.inners.items;
}
