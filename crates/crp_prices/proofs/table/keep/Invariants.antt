use Rattle.std.proofs.Common.{◌≡◌, length}
use Rattle.crp_prices.specs.PriceTable.{price_in}
use Rattle.crp_prices.proofs.Filling.{AreKept}
use Rattle.crp_prices.proofs.table.keep.Given as goal

abbrev pub invariant-loop-index : goal.invariant-loop-index
invariant-loop-index l = record {
  long : length l.inners ≡ length l.pass.jobs.now;
  kept : AreKept (price_in l.pass.table.now) l.pass.unit l.pass.ordered l.pass.jobs.now l.rank l.index l.inners;
}
