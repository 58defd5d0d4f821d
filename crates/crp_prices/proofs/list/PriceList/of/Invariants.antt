-- The prices so far are listed.
use Rattle.crp_prices.proofs.Gathered.{AreGathered}
use Rattle.crp_prices.proofs.list.PriceList.of.Given as goal

abbrev pub invariant-loop-i : goal.invariant-loop-i
invariant-loop-i l = AreGathered l.price-items l.i l.entries.items
