use Rattle.std.proofs.Common.{◌≡◌, ◌≤◌, ◌++◌, length, take, drop}
use Rattle.crp_prices.specs.AllJobs.{first_jobs}
use Rattle.crp_prices.proofs.all_jobs.push_first.Given as goal

abbrev pub invariant-loop-i : goal.invariant-loop-i
invariant-loop-i l = record {
  within : l.i ≤ length l.stack;
  are : l.jobs.items ≡ l.initial.jobs.items ++ first_jobs l.ordered l.turn (take l.i l.stack) (drop l.i l.stack);
}

abbrev pub decreases-loop-i : goal.decreases-loop-i
decreases-loop-i l = l.i
