use Rattle.std.proofs.Common.{◌≡◌, ◌<◌, ℕ, length, slice_index}
use Rattle.crp_prices.specs.AllJobs.{turn_of}
use Rattle.crp_prices.proofs.all_jobs.turns_of.Given as goal

abbrev pub invariant-loop-rank : goal.invariant-loop-rank
invariant-loop-rank l = record {
  long : length l.turns ≡ 97;
  each : (k : ℕ) → k < l.rank → slice_index l.turns k ≡ turn_of l.position.place k;
}
