use Rattle.std.proofs.Common.{◌≡◌, drop}
use Rattle.crp_tree.specs.Trees.{least}
use Rattle.crp_search.proofs.greedy.least_of.Given as goal

abbrev pub invariant-loop-rank : goal.invariant-loop-rank
invariant-loop-rank l = least l.least (drop l.rank-index l.stack) ≡ least l.empty l.stack
