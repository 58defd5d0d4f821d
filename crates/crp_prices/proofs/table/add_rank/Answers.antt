use Rattle.std.proofs.Common.{arith, ◌≡◌, slice_index, slice_index_or, sym, ◌∙◌, subst}
use Rattle.std.proofs.lemmas.Option.{same_Some, slice_get_within, slice_get-get_or}
use Rattle.crp_prices.specs.PriceTable.{price_in}
use Rattle.crp_prices.specs.declared.job.MarkedJob.{MarkedJob}
use Rattle.crp_prices.specs.Tables.{AreColumns}
use Rattle.crp_prices.proofs.Starts.{placed}
use Rattle.crp_prices.proofs.Filling.{no_job, inner_same}
use Rattle.crp_prices.proofs.table.add_rank.Goals as goal

pub bounds-pass-pass : goal.bounds-pass-pass
bounds-pass-pass c =
    let there = slice_get-get_or c.args.pass.now.jobs.now c.first_of-first.result no_job (omega arith) in
    let p = placed c.args.pass.now.jobs.now c.args.pass.now.starts c.first_of-first.result (slice_index_or c.args.pass.now.jobs.now c.first_of-first.result no_job) c.requires.ready.readable c.requires.ready.starts there in
    omega (arith, p.soon, p.ranks)

pub keep-requires-clause-columns : goal.keep-requires-clause-columns
keep-requires-clause-columns c x here =
    let there = slice_get-get_or c.args.pass.now.jobs.now c.first_of-first.result no_job (omega arith) in
    let same : slice_index_or c.args.pass.now.jobs.now c.first_of-first.result no_job ≡ x = same_Some (slice_index_or c.args.pass.now.jobs.now c.first_of-first.result no_job) x (sym there ∙ here) in
    subst (λ (y : MarkedJob). AreColumns (price_in c.args.pass.now.table.now) c.args.pass.now.unit c.args.pass.now.ordered c.args.pass.now.jobs.now c.args.rank (slice_index c.args.pass.now.starts y.turn) (slice_index c.args.pass.now.starts c.args.rank) c.fill.new.columns) same c.fill.ensures

pub returns-else-first-pass-clause-inners : goal.returns-else-first-pass-clause-inners
returns-else-first-pass-clause-inners c =
    inner_same (price_in c.args.pass.now.table.now) c.args.pass.now.unit c.args.pass.now.ordered c.args.pass.now.jobs.now c.args.rank c.args.inners.now (λ i x there. c.first_of-first.ensures.none i x (omega (arith, slice_get_within c.args.pass.now.jobs.now i x there)) there) c.requires.inners
