use Rattle.std.proofs.Common.{true, arith}
use Rattle.std.proofs.lemmas.Grind.{common_steps}
use Rattle.crp_prices.specs.Columns.{entry}
use Rattle.crp_prices.proofs.Entries.{written, low_entry}
use Rattle.crp_prices.proofs.columns.with_low.Goals as goal

pub loop-room-preserved : goal.loop-room-preserved
loop-room-preserved c = record {
  rooms = grind (arith, common_steps);
  some = omega arith;
  each = written (λ k. entry true c.args.paid c.args.after.now c.args.resumed.now c.args.inner.now k) c.loop-room.column c.loop-room.room c.max.result (omega arith) c.loop-room.invariant.each
      (omega (arith, low_entry c.args.paid c.args.after.now c.args.resumed.now c.args.inner.now c.loop-room.room c.loop-room.invariant.some));
}
