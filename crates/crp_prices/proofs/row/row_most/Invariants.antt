use Rattle.std.proofs.Common.{◌≡◌, ◌+◌, ◌≤◌, length, take}
use Rattle.crp_prices.specs.PriceTable.{price_in}
use Rattle.crp_prices.specs.Prices.{least_of}
use Rattle.crp_prices.specs.Pass.{scopes_of, worth, row_pass}
use Rattle.crp_prices.proofs.row.row_most.Given as goal

abbrev pub invariant-scopes : goal.invariant-scopes
invariant-scopes l = record {
  within : l.end ≤ length l.stack;
  long : length l.columns ≡ length l.pass.jobs.now + 1;
  from : l.from ≤ least_of l.pass.ordered (take l.end l.stack);
  total : l.total + worth (price_in l.pass.table.now) l.pass.unit l.pass.ordered l.pass.jobs.now l.height l.from l.pass.jobs.now (scopes_of l.pass.ordered (take l.end l.stack)) ≡
      row_pass (price_in l.pass.table.now) l.pass.unit l.pass.ordered l.pass.jobs.now l.height l.stack;
}

abbrev pub decreases-scopes : goal.decreases-scopes
decreases-scopes l = l.end
