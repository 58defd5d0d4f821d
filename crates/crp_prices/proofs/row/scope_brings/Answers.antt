use Rattle.std.proofs.Common.{arith, ℕ, List, [], drop, slice_index, slice_index_or, sym, ap, ◌∙◌}
use Rattle.crp_prices.specs.declared.job.MarkedJob.{MarkedJob}
use Rattle.crp_prices.specs.PriceTable.{price_in}
use Rattle.crp_prices.specs.Pass.{best}
use Rattle.crp_prices.specs.Columns.{IsColumn}
use Rattle.crp_prices.proofs.Starts.{starts_rise}
use Rattle.crp_prices.proofs.Steps.{read_from}
use Rattle.crp_prices.proofs.Filling.{column_there}
use Rattle.crp_prices.proofs.row.scope_brings.Goals as goal

pub returns-clause-value : goal.returns-clause-value
returns-clause-value c =
    let jobs : List MarkedJob = c.args.pass.now.jobs.now in
    let at : ℕ = slice_index c.args.pass.now.starts c.args.from in
    let is : IsColumn (price_in c.args.pass.now.table.now) c.args.pass.now.unit c.args.pass.now.ordered c.args.pass.now.jobs.now c.args.low (drop at jobs) (slice_index_or c.fill.new.columns at []) =
    column_there (price_in c.args.pass.now.table.now) c.args.pass.now.unit c.args.pass.now.ordered c.args.pass.now.jobs.now c.args.low at (slice_index c.args.pass.now.starts c.args.low) c.fill.new.columns at c.fill.ensures (omega arith)
    (starts_rise jobs c.args.pass.now.starts c.args.from c.args.low c.requires.ready.starts c.requires.from (omega (arith, c.requires.low, c.requires.ready.few)))
    (c.requires.ready.starts.within c.args.from (omega (arith, c.requires.from, c.requires.low, c.requires.ready.few))) in
    is.brings c.args.room c.requires.room
    ∙ ap (λ l. best (price_in c.args.pass.now.table.now) c.args.pass.now.unit c.args.pass.now.ordered c.args.pass.now.jobs.now c.args.room c.args.low 0 l) (c.requires.ready.starts.begins c.args.from (omega (arith, c.requires.from, c.requires.low, c.requires.ready.few)))
    ∙ sym (read_from (price_in c.args.pass.now.table.now) c.args.pass.now.unit c.args.pass.now.ordered c.args.pass.now.jobs.now c.args.room c.args.low c.args.from jobs c.requires.ready.readable.rising)
