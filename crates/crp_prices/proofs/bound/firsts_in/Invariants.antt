use Rattle.std.proofs.Common.{◌≡◌, ◌+◌, ◌*◌, ◌≤◌, [], take, drop}
use Rattle.crp_prices.specs.Prices.{firsts_in}
use Rattle.crp_prices.specs.PriceTable.{price_in}
use Rattle.crp_prices.proofs.bound.firsts_in.Given as goal

abbrev pub invariant-loop-i : goal.invariant-loop-i
invariant-loop-i l = record {
  few : l.sum ≤ l.i * 9999;
  is : l.sum + firsts_in (price_in l.prices) l.ordered (take l.i l.stack) (drop l.i l.stack) ≡ firsts_in (price_in l.prices) l.ordered [] l.stack;
}
