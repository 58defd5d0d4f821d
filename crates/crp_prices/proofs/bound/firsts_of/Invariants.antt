use Rattle.std.proofs.Common.{◌≡◌, ◌+◌, ◌-◌, ◌*◌, ◌≤◌, [], drop}
use Rattle.std.specs.Prelude.{sum_by}
use Rattle.crp_prices.specs.Prices.{firsts_in, firsts}
use Rattle.crp_prices.specs.PriceTable.{price_in}
use Rattle.crp_prices.proofs.bound.firsts_of.Given as goal

abbrev pub invariant-loop-row : goal.invariant-loop-row
invariant-loop-row l = record {
  some : 1 ≤ l.row;
  few : l.sum ≤ (l.row - 1) * (8 * 9999);
  is : l.sum + sum_by (λ stack. firsts_in (price_in l.prices) l.position.place.ordered [] stack) (drop (l.row - 1) l.position.place.stacks) ≡ firsts (price_in l.prices) l.position.place;
}
