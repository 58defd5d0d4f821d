use Rattle.std.proofs.Common.{◌≡◌, ◌<◌, ◌≤◌, ◌++◌, ℕ, slice_index}
use Rattle.crp_plan.specs.Bay.{Position}
use Rattle.crp_prices.specs.AllJobs.{turn_of, later_jobs}
use Rattle.crp_prices.proofs.all_jobs.push_later.Given as goal

abbrev pub invariant-loop-rank : goal.invariant-loop-rank
invariant-loop-rank l = record {
  few : l.rank ≤ l.most;
  are : (s : Position) → ((rank : ℕ) → rank < 97 → slice_index l.turns rank ≡ turn_of s rank) → l.jobs.items ++ later_jobs s l.turn l.rank ≡ l.initial.jobs.items ++ later_jobs s l.turn l.most;
}

abbrev pub decreases-loop-rank : goal.decreases-loop-rank
decreases-loop-rank l = l.rank
