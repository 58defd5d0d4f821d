use Rattle.std.proofs.Common.{◌≡◌, take, length}
use Rattle.std.specs.List.{AllByRecursion}
use Rattle.crp_chains.specs.Chains.{IsBlocker, ranks_of}
use Rattle.crp_thinning.proofs.finding.blockers_of.Given as goal

abbrev pub invariant-loop-rank : goal.invariant-loop-rank
invariant-loop-rank l = record {
  count : length l.chain.items ≡ l.rank-index;
  ranks : ranks_of l.chain.items ≡ take l.rank-index l.ranks;
  block : AllByRecursion (IsBlocker l.track.place) l.chain.items;
}
