use Rattle.std.proofs.Common.{◌-◌, length}
use Rattle.crp_search.proofs.Greedily.{IsGreedyFront}
use Rattle.crp_search.proofs.greedy.first_plan.Given as goal

abbrev pub invariant-loop-position : goal.invariant-loop-position
invariant-loop-position l = IsGreedyFront l.problem l.path.items l.position.place

abbrev pub decreases-loop-position : goal.decreases-loop-position
decreases-loop-position l = 673 - length l.path.items
