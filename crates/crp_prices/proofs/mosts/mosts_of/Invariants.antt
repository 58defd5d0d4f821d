use Rattle.std.proofs.Common.{◌≡◌, ◌+◌, ◌-◌, ◌*◌, ◌≤◌, ◌++◌, length, drop}
use Rattle.std.specs.Prelude.{sum}
use Rattle.crp_prices.specs.PriceTable.{price_in}
use Rattle.crp_prices.specs.Pass.{row_passes}
use Rattle.crp_prices.specs.AllJobs.{jobs_of, mosts}
use Rattle.crp_prices.proofs.mosts.mosts_of.Given as goal

abbrev pub invariant-loop-row : goal.invariant-loop-row
invariant-loop-row l = record {
  some : 1 ≤ l.row;
  each : length l.mosts.items + 1 ≡ l.row;
  few : sum l.mosts.items ≤ (l.row - 1) * (8 * (98 * 9999));
  long : length l.columns.items ≡ length l.pass.jobs.now + 1;
  are : l.mosts.items ++ row_passes (price_in l.prices) l.unit l.position.place.ordered (jobs_of l.position.place 96) (drop (l.row - 1) l.position.place.heights) (drop (l.row - 1) l.position.place.stacks) ≡
      mosts (price_in l.prices) l.unit l.position.place;
}
