use Rattle.std.proofs.Common.{◌≡◌, ◌≤◌, suc, [], take, drop}
use Rattle.crp_prices.specs.Prices.{least_of}
use Rattle.crp_prices.specs.AllJobs.{turn_in}
use Rattle.crp_prices.proofs.all_jobs.turn_in.Given as goal

abbrev pub invariant-loop-c : goal.invariant-loop-c
invariant-loop-c l = record {
  few : l.least ≤ suc l.ordered;
  least : l.least ≡ least_of l.ordered (take l.c-index l.stack);
  is : turn_in l.ordered l.rank (take l.c-index l.stack) (drop l.c-index l.stack) ≡ turn_in l.ordered l.rank [] l.stack;
}
