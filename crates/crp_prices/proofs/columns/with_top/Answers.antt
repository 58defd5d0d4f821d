use Rattle.std.proofs.Common.{false, [], arith}
use Rattle.std.proofs.lemmas.Grind.{common_steps}
use Rattle.crp_prices.specs.Columns.{entry}
use Rattle.crp_prices.proofs.Entries.{written, top_entry}
use Rattle.crp_prices.proofs.columns.with_top.Goals as goal

pub loop-room-preserved : goal.loop-room-preserved
loop-room-preserved c = record {
  rooms = grind (arith, common_steps);
  some = omega arith;
  each = written (λ k. entry false c.args.paid c.args.after.now [] [] k) c.loop-room.column c.loop-room.room c.max.result (omega arith) c.loop-room.invariant.each
      (omega (arith, top_entry c.args.paid c.args.after.now c.loop-room.room c.loop-room.invariant.some));
}
