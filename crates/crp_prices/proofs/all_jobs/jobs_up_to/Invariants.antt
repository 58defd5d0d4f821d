use Rattle.std.proofs.Common.{◌≡◌, ◌≤◌, ◌*◌, ◌++◌, ◌-◌, suc, length}
use Rattle.crp_prices.specs.AllJobs.{jobs_in, jobs_of}
use Rattle.crp_prices.proofs.all_jobs.jobs_up_to.Given as goal

abbrev pub invariant-loop-turn : goal.invariant-loop-turn
invariant-loop-turn l = record {
  few : length l.jobs.items ≤ 104 * l.turn;
  are : l.jobs.items ++ jobs_in l.position.place l.most l.turn (suc l.position.place.ordered - l.turn) ≡ jobs_of l.position.place l.most;
}
