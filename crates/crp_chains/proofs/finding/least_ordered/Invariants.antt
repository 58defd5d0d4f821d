use Rattle.std.proofs.Common.{◌≡◌, take}
use Rattle.crp_bounds.specs.Leasts.{least_ordered}
use Rattle.crp_chains.proofs.finding.least_ordered.Given as goal

abbrev pub invariant-loop-rank : goal.invariant-loop-rank
invariant-loop-rank l = l.least ≡ least_ordered l.ordered (take l.rank-index l.stack)
