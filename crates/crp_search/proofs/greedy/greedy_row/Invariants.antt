use Rattle.std.proofs.Common.{◌≡◌}
use Rattle.crp_search.specs.Greedy.{least_rank}
use Rattle.crp_search.proofs.Choice.{IsBestSoFar}
use Rattle.crp_search.proofs.greedy.greedy_row.Given as goal

abbrev pub invariant-loop-row : goal.invariant-loop-row
invariant-loop-row l = record {
  so_far : IsBestSoFar l.problem l.position.place l.row-index l.best;
  least : l.least ≡ least_rank l.problem l.position.place l.best;
}
