use Rattle.std.proofs.Common.{rules, arith, ◌≡◌, ◌+◌, ℕ}
use Rattle.crp_plan.specs.Bay.{Position}
use Rattle.crp_bay.proofs.Reaching.{reached_sound}
use Rattle.crp_prices.specs.PriceTable.{price_in}
use Rattle.crp_prices.specs.Prices.{price_bound}
use Rattle.crp_prices.specs.AllJobs.{mosts}
use Rattle.crp_prices.proofs.Bounding.{rounded_bound}
use Rattle.crp_prices.proofs.Pathway.{rounded_floor}
use Rattle.crp_prices.proofs.Summing.{pass_mosts}
use Rattle.crp_prices.proofs.bound.price_bound_of.Goals as goal

pub returns-clause-below_every_run : goal.returns-clause-below_every_run
returns-clause-below_every_run c moves completes =
    let s : Position = c.args.position.now.place in
    let price : ℕ → ℕ → ℕ = price_in c.args.prices.now in
    let value : c.blocking.result + c.div_ceil-units.result ≡ price_bound price c.args.unit s (mosts price c.args.unit s) = search rules in
    omega (arith, value, rounded_bound price c.args.unit s (mosts price c.args.unit s) moves c.requires (reached_sound s c.firsts_of.ensures.reached) (pass_mosts price c.args.unit s c.firsts_of.ensures.reached) completes)

pub returns-clause-below_every_plan : goal.returns-clause-below_every_plan
returns-clause-below_every_plan c p path more moves is at plan e =
    let s : Position = c.args.position.now.place in
    let price : ℕ → ℕ → ℕ = price_in c.args.prices.now in
    let value : c.blocking.result + c.div_ceil-units.result ≡ price_bound price c.args.unit s (mosts price c.args.unit s) = search rules in
    omega (arith, value, rounded_floor price c.args.unit p path more s (mosts price c.args.unit s) moves c.requires is at (pass_mosts price c.args.unit s c.firsts_of.ensures.reached) plan e)
