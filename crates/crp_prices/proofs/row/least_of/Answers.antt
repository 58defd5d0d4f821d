use Rattle.std.proofs.Common.{arith, ◌≡◌, [], drop, ap}
use Rattle.std.proofs.lemmas.List.{drop_all}
use Rattle.crp_prices.specs.Prices.{least_of}
use Rattle.crp_prices.proofs.Splitting.{least_most}
use Rattle.crp_prices.proofs.row.least_of.Goals as goal

pub loop-rank-init : goal.loop-rank-init
loop-rank-init c = record { few = omega arith; is = omega (arith, least_most c.args.ordered c.args.stack.now) }

pub returns : goal.returns
returns c =
    let gone : drop c.loop-rank.rank-index c.args.stack.now ≡ [] = drop_all c.loop-rank.rank-index c.args.stack.now (omega arith) in
    omega (arith, c.loop-rank.invariant.is, c.loop-rank.invariant.few, ap (least_of c.args.ordered) gone)
