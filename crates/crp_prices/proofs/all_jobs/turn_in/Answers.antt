use Rattle.std.proofs.Common.{arith, ◌∙◌}
use Rattle.crp_prices.proofs.Listing.{least_step, turn_step}
use Rattle.std.proofs.lemmas.Grind.{common_steps}
use Rattle.crp_prices.proofs.all_jobs.turn_in.Goals as goal
use Rattle.crp_prices.proofs.all_jobs.turn_in.Goals.{else-c-rank-via-then-c-rank+else-least-rank, else-c-rank-via-else-c-rank}

pub loop-c-preserved : goal.loop-c-preserved
loop-c-preserved c = record {
  few = omega (arith, c.loop-c.invariant.few);
  least = omega (arith, least_step c.args.ordered c.loop-c.c-index 0 c.args.stack.now (omega arith), c.loop-c.invariant.least, c.min-least.ensures);
  is = turn_step c.args.ordered c.args.rank c.loop-c.c-index 0 c.args.stack.now (omega arith) (elim c.else-c-rank.branch [
    | else-c-rank-via-then-c-rank+else-least-rank w ↦ grind (arith, common_steps, c.loop-c.invariant.least)
    | else-c-rank-via-else-c-rank w ↦ grind (arith, common_steps)
  ]) ∙ c.loop-c.invariant.is;
}
