use Rattle.std.proofs.Common.{arith, ◌≡◌, ◌+◌, [], Some, length, slice_get, slice_index_or, sym, ap, subst, length-set}
use Rattle.std.proofs.lemmas.Option.{slice_get-get_or}
use Rattle.crp_prices.specs.PriceTable.{price_in}
use Rattle.crp_prices.specs.declared.job.MarkedJob.{MarkedJob}
use Rattle.crp_prices.proofs.Filling.{no_job, AreKept, none_kept, all_kept, kept_pass, kept_more}
use Rattle.crp_prices.proofs.table.keep.Goals as goal
use Rattle.crp_prices.proofs.table.keep.Goals.{then-pass-index, else-pass-index}

pub loop-index-init : goal.loop-index-init
loop-index-init c = record {
  long = c.requires.inners.each;
  kept = none_kept (price_in c.args.pass.now.table.now) c.args.pass.now.unit c.args.pass.now.ordered c.args.pass.now.jobs.now c.args.rank c.args.first c.args.inners.now c.requires.none c.requires.inners;
}

pub loop-index-preserved : goal.loop-index-preserved
loop-index-preserved c =
    let y : MarkedJob = slice_index_or c.args.pass.now.jobs.now c.loop-index.index no_job in
    let z : MarkedJob = slice_index_or c.args.pass.now.jobs.now c.args.first no_job in
    let within = c.requires.ready.starts.within c.args.rank (omega (arith, c.requires.rank, c.requires.ready.few)) in
    let there : slice_get c.args.pass.now.jobs.now c.loop-index.index ≡ Some y = slice_get-get_or c.args.pass.now.jobs.now c.loop-index.index no_job (omega (arith, within)) in
    let at_first : slice_get c.args.pass.now.jobs.now c.args.first ≡ Some z = slice_get-get_or c.args.pass.now.jobs.now c.args.first no_job (omega (arith, within)) in
    elim c.if-pass-index.branch [
      | then-pass-index w ↦ record {
        long = omega (arith, ap length w.inners-is, length-set c.loop-index.inners c.loop-index.index (slice_index_or c.args.columns.now w.begin_of.result []), c.loop-index.invariant.long);
        kept = subst (AreKept (price_in c.args.pass.now.table.now) c.args.pass.now.unit c.args.pass.now.ordered c.args.pass.now.jobs.now c.args.rank (c.loop-index.index + 1)) (sym w.inners-is) (kept_more (price_in c.args.pass.now.table.now) c.args.pass.now.unit c.args.pass.now.ordered c.args.pass.now.jobs.now c.args.pass.now.starts c.args.rank c.args.first c.loop-index.index z y c.loop-index.inners c.args.columns.now w.begin_of.result
            c.requires.ready.readable c.requires.ready.starts (omega arith) at_first there w.if-pass-index.true c.loop-index.invariant.long (c.requires.columns z at_first)
            w.begin_of.ensures.within (w.begin_of.ensures.begins y there) (w.begin_of.ensures.after y there) (w.begin_of.ensures.before y there) c.loop-index.invariant.kept);
      }
      | else-pass-index w ↦ record {
        long = omega (arith, ap length w.inners-is, c.loop-index.invariant.long);
        kept = subst (AreKept (price_in c.args.pass.now.table.now) c.args.pass.now.unit c.args.pass.now.ordered c.args.pass.now.jobs.now c.args.rank (c.loop-index.index + 1)) (sym w.inners-is)
            (kept_pass (price_in c.args.pass.now.table.now) c.args.pass.now.unit c.args.pass.now.ordered c.args.pass.now.jobs.now c.args.rank c.loop-index.index y c.loop-index.inners there w.if-pass-index.false c.loop-index.invariant.kept);
      }
    ]

pub returns : goal.returns
returns c = all_kept (price_in c.args.pass.now.table.now) c.args.pass.now.unit c.args.pass.now.ordered c.args.pass.now.jobs.now c.args.pass.now.starts c.args.rank c.loop-index.index c.loop-index.inners c.requires.ready.readable c.requires.ready.starts (omega arith) c.loop-index.invariant.long c.loop-index.invariant.kept
