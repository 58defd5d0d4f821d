-- The ranks so far.
use Rattle.std.proofs.Common.{◌≡◌, map, take}
use Rattle.crp_order.specs.BayProblems.{rank_in}
use Rattle.crp_order.proofs.ranks.ranks_of.Given as goal

abbrev pub invariant-loop-container : goal.invariant-loop-container
invariant-loop-container l = l.ranks.items ≡ map (rank_in l.names) (take l.container-index l.stack)
