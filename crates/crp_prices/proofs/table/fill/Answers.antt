use Rattle.std.proofs.Common.{arith, ◌≡◌, ◌-◌, suc, slice_index, subst}
use Rattle.crp_prices.specs.PriceTable.{price_in}
use Rattle.crp_prices.specs.Tables.{AreColumns}
use Rattle.crp_prices.proofs.Filling.{filled_end, filled_more, fewer_columns}
use Rattle.crp_prices.proofs.table.fill.Goals as goal

pub loop-i-init : goal.loop-i-init
loop-i-init c = record {
  within = omega arith;
  are = filled_end (price_in c.args.pass.now.table.now) c.args.pass.now.unit c.args.pass.now.ordered c.args.pass.now.jobs.now c.args.low c.args.pass.now.starts c.args.columns.now c.requires.ready.readable c.requires.ready.starts (omega (arith, c.requires.low, c.requires.ready.few)) c.requires.long;
}

pub column_at-requires-clause-columns : goal.column_at-requires-clause-columns
column_at-requires-clause-columns c =
    let e : c.loop-i.i ≡ suc (c.loop-i.i - 1) = omega arith in
    subst (λ n. AreColumns (price_in c.args.pass.now.table.now) c.args.pass.now.unit c.args.pass.now.ordered c.args.pass.now.jobs.now c.args.low n (slice_index c.args.pass.now.starts c.args.low) c.loop-i.columns) e c.loop-i.invariant.are

pub loop-i-preserved : goal.loop-i-preserved
loop-i-preserved c =
    let e : c.loop-i.i ≡ suc (c.loop-i.i - 1) = omega arith in
    record {
      within = omega (arith, c.loop-i.invariant.within);
      are = filled_more (price_in c.args.pass.now.table.now) c.args.pass.now.unit c.args.pass.now.ordered c.args.pass.now.jobs.now c.args.low (c.loop-i.i - 1) (slice_index c.args.pass.now.starts c.args.low) c.loop-i.columns c.column_at.result
          (omega (arith, c.loop-i.invariant.are.each, c.loop-i.invariant.within, c.requires.ready.starts.within c.args.low (omega (arith, c.requires.low, c.requires.ready.few))))
          (subst (λ n. AreColumns (price_in c.args.pass.now.table.now) c.args.pass.now.unit c.args.pass.now.ordered c.args.pass.now.jobs.now c.args.low n (slice_index c.args.pass.now.starts c.args.low) c.loop-i.columns) e c.loop-i.invariant.are) c.column_at.ensures;
    }

pub returns : goal.returns
returns c = fewer_columns (price_in c.args.pass.now.table.now) c.args.pass.now.unit c.args.pass.now.ordered c.args.pass.now.jobs.now c.args.low c.loop-i.i c.args.begin (slice_index c.args.pass.now.starts c.args.low) c.loop-i.columns (omega arith) c.loop-i.invariant.are
