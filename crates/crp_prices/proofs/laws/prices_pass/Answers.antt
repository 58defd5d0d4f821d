use Rattle.crp_prices.proofs.Pathway.{units_floor, rounded_floor}
use Rattle.crp_prices.proofs.laws.prices_pass.Goals as goal

pub returns : goal.returns
returns c = record { units = units_floor; rounded = rounded_floor }
