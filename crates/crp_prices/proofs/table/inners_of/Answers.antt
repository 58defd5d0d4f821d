use Rattle.std.proofs.Common.{arith, ◌≡◌, suc, subst}
use Rattle.crp_prices.specs.PriceTable.{price_in}
use Rattle.crp_prices.specs.Tables.{AreInner}
use Rattle.crp_prices.proofs.table.inners_of.Goals as goal

pub returns-clause-inners : goal.returns-clause-inners
returns-clause-inners c =
    let e : c.loop-rank.rank ≡ suc c.args.pass.now.ordered = omega arith in
    subst (λ n. AreInner (price_in c.args.pass.now.table.now) c.args.pass.now.unit c.args.pass.now.ordered c.args.pass.now.jobs.now n c.loop-rank.inners.items) e c.loop-rank.invariant.inner
