use Rattle.std.proofs.Common.{arith, ◌+◌, suc, slice_index, slice_index_or}
use Rattle.crp_prices.specs.declared.job.MarkedJob.{MarkedJob}
use Rattle.crp_prices.specs.PriceTable.{price_in}
use Rattle.crp_prices.proofs.Starts.{Placed, placed}
use Rattle.crp_prices.proofs.Filling.{no_job, making, few_of, after_is, resumed_is, inner_is, column_few, inner_few, made_low, made_top}
use Rattle.crp_prices.proofs.columns.column_at.Goals as goal

pub price_at-paid-requires-clause-turn : goal.price_at-paid-requires-clause-turn
price_at-paid-requires-clause-turn c =
    let x : MarkedJob = slice_index_or c.args.pass.now.jobs.now c.args.index no_job in
    let k = making c.args.pass.now c.args.low c.args.index c.args.inners.now c.args.columns.now c.requires.ready c.requires.low c.requires.index c.requires.inners c.requires.columns in
    let p : Placed c.args.pass.now.jobs.now c.args.pass.now.starts c.args.index x = placed c.args.pass.now.jobs.now c.args.pass.now.starts c.args.index x c.requires.ready.readable c.requires.ready.starts k.here in
    omega (arith, p.soon, p.ranks)

pub with_low-requires-clause-resumed : goal.with_low-requires-clause-resumed
with_low-requires-clause-resumed c =
    let x : MarkedJob = slice_index_or c.args.pass.now.jobs.now c.args.index no_job in
    let k = making c.args.pass.now c.args.low c.args.index c.args.inners.now c.args.columns.now c.requires.ready c.requires.low c.requires.index c.requires.inners c.requires.columns in
    column_few (price_in c.args.pass.now.table.now) c.args.pass.now.unit c.args.pass.now.ordered c.args.pass.now.jobs.now c.args.low (slice_index c.args.pass.now.starts (x.rank + 1)) _ (few_of c.args.pass.now c.requires.ready) (omega (arith, c.requires.low, c.requires.ready.few))
    (resumed_is (price_in c.args.pass.now.table.now) c.args.pass.now.unit c.args.pass.now.ordered c.args.pass.now.jobs.now c.args.low c.args.pass.now.starts c.args.inners.now c.args.columns.now c.args.index x k c.if-job-low.true)

pub with_low-requires-clause-inner : goal.with_low-requires-clause-inner
with_low-requires-clause-inner c =
    let x : MarkedJob = slice_index_or c.args.pass.now.jobs.now c.args.index no_job in
    let k = making c.args.pass.now c.args.low c.args.index c.args.inners.now c.args.columns.now c.requires.ready c.requires.low c.requires.index c.requires.inners c.requires.columns in
    let p : Placed c.args.pass.now.jobs.now c.args.pass.now.starts c.args.index x = placed c.args.pass.now.jobs.now c.args.pass.now.starts c.args.index x c.requires.ready.readable c.requires.ready.starts k.here in
    inner_few (price_in c.args.pass.now.table.now) c.args.pass.now.unit c.args.pass.now.ordered c.args.pass.now.jobs.now x (suc c.args.index) _ (few_of c.args.pass.now c.requires.ready) (omega (arith, p.ranks))
    (inner_is (price_in c.args.pass.now.table.now) c.args.pass.now.unit c.args.pass.now.ordered c.args.pass.now.jobs.now c.args.low c.args.pass.now.starts c.args.inners.now c.args.columns.now c.args.index x k c.if-job-low.true)

pub earns_at-requires-clause-rank : goal.earns_at-requires-clause-rank
earns_at-requires-clause-rank c =
    let x : MarkedJob = slice_index_or c.args.pass.now.jobs.now c.args.index no_job in
    let k = making c.args.pass.now c.args.low c.args.index c.args.inners.now c.args.columns.now c.requires.ready c.requires.low c.requires.index c.requires.inners c.requires.columns in
    let p : Placed c.args.pass.now.jobs.now c.args.pass.now.starts c.args.index x = placed c.args.pass.now.jobs.now c.args.pass.now.starts c.args.index x c.requires.ready.readable c.requires.ready.starts k.here in
    omega (arith, p.ranks)

pub earns_at-requires-clause-turn : goal.earns_at-requires-clause-turn
earns_at-requires-clause-turn c =
    let x : MarkedJob = slice_index_or c.args.pass.now.jobs.now c.args.index no_job in
    let k = making c.args.pass.now c.args.low c.args.index c.args.inners.now c.args.columns.now c.requires.ready c.requires.low c.requires.index c.requires.inners c.requires.columns in
    let p : Placed c.args.pass.now.jobs.now c.args.pass.now.starts c.args.index x = placed c.args.pass.now.jobs.now c.args.pass.now.starts c.args.index x c.requires.ready.readable c.requires.ready.starts k.here in
    omega (arith, p.soon, p.ranks)

pub with_top-requires-clause-after : goal.with_top-requires-clause-after
with_top-requires-clause-after c =
    let x : MarkedJob = slice_index_or c.args.pass.now.jobs.now c.args.index no_job in
    let k = making c.args.pass.now c.args.low c.args.index c.args.inners.now c.args.columns.now c.requires.ready c.requires.low c.requires.index c.requires.inners c.requires.columns in
    column_few (price_in c.args.pass.now.table.now) c.args.pass.now.unit c.args.pass.now.ordered c.args.pass.now.jobs.now c.args.low (c.args.index + 1) _ (few_of c.args.pass.now c.requires.ready) (omega (arith, c.requires.low, c.requires.ready.few))
    (after_is (price_in c.args.pass.now.table.now) c.args.pass.now.unit c.args.pass.now.ordered c.args.pass.now.jobs.now c.args.low c.args.pass.now.starts c.args.inners.now c.args.columns.now c.args.index x k)

pub returns-then-job-low : goal.returns-then-job-low
returns-then-job-low c =
    let x : MarkedJob = slice_index_or c.args.pass.now.jobs.now c.args.index no_job in
    let k = making c.args.pass.now c.args.low c.args.index c.args.inners.now c.args.columns.now c.requires.ready c.requires.low c.requires.index c.requires.inners c.requires.columns in
    made_low (price_in c.args.pass.now.table.now) c.args.pass.now.unit c.args.pass.now.ordered c.args.pass.now.jobs.now c.args.low c.args.pass.now.starts c.args.inners.now c.args.columns.now c.args.index x c.price_at-paid.result c.with_low.result k c.if-job-low.true c.price_at-paid.ensures (omega arith)
    (λ i lt. c.with_low.ensures i lt)

pub returns-else-job-low : goal.returns-else-job-low
returns-else-job-low c =
    let x : MarkedJob = slice_index_or c.args.pass.now.jobs.now c.args.index no_job in
    let k = making c.args.pass.now c.args.low c.args.index c.args.inners.now c.args.columns.now c.requires.ready c.requires.low c.requires.index c.requires.inners c.requires.columns in
    made_top (price_in c.args.pass.now.table.now) c.args.pass.now.unit c.args.pass.now.ordered c.args.pass.now.jobs.now c.args.low c.args.pass.now.starts c.args.inners.now c.args.columns.now c.args.index x c.earns_at.result c.with_top.result k c.if-job-low.false c.earns_at.ensures.value (omega arith)
    (λ i lt. c.with_top.ensures i lt)
