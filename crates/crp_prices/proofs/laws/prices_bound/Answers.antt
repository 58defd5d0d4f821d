use Rattle.crp_prices.proofs.Bounding.{units_bound, rounded_bound}
use Rattle.crp_prices.proofs.laws.prices_bound.Goals as goal

pub returns : goal.returns
returns c = record { units = units_bound; rounded = rounded_bound }
