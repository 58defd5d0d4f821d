use Rattle.std.proofs.Common.{◌≡◌, ℕ, List, ◌++◌, length}
use Rattle.crp_prices.specs.declared.list.Priced.{Priced}
use Rattle.crp_prices.specs.PriceTable.{price_in}
use Rattle.crp_prices.specs.PriceLists.{listed_price}
use Rattle.crp_prices.proofs.list.PriceList.fill.Given as goal

-- the prices of those that were set
pub record AreSet (all rest : List Priced) (table : List ℕ) : Type 0 where
  pub done : List Priced
  pub all_are : all ≡ rest ++ done
  pub prices : (rank turn : ℕ) → price_in table rank turn ≡ listed_price done rank turn

abbrev pub invariant-loop-last : goal.invariant-loop-last
invariant-loop-last l = record { set : AreSet l.self l.rest l.prices }

abbrev pub decreases-loop-last : goal.decreases-loop-last
decreases-loop-last l = length l.rest
