use Rattle.std.proofs.Common.{◌≡◌, ◌≤◌, suc, min, drop}
use Rattle.crp_prices.specs.Prices.{least_of}
use Rattle.crp_prices.proofs.row.least_of.Given as goal

abbrev pub invariant-loop-rank : goal.invariant-loop-rank
invariant-loop-rank l = record {
  few : l.least ≤ suc l.ordered;
  is : min l.least (least_of l.ordered (drop l.rank-index l.stack)) ≡ least_of l.ordered l.stack;
}
