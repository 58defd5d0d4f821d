-- What the pass has at hand.
use Rattle.std.specs.Prelude.{◌≡◌, ◌≤◌, ◌*◌, ℕ, length}
use Rattle.crp_prices.specs.declared.pass.Pass.{Pass}
use Rattle.crp_prices.specs.PriceTable.{price_in}
use Rattle.crp_prices.specs.Tables.{AreReadable, AreStarts}

-- small prices, and jobs that it can read, with the index at which the jobs of each turn begin
pub record IsReady (pass : Pass) : Type 0 where
  pub few : pass.ordered ≤ 96
  pub long : length pass.table.now ≡ 97 * 97
  pub prices : (rank turn : ℕ) → price_in pass.table.now rank turn ≤ 9999
  pub readable : AreReadable pass.jobs.now
  pub starts : AreStarts pass.jobs.now pass.starts
