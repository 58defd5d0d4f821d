-- The container is none of the names so far.
use Rattle.std.proofs.Common.{◌≡◌, ◌+◌, drop}
use Rattle.crp_order.specs.BayProblems.{rank_in}
use Rattle.crp_order.proofs.ranks.rank_of.Given as goal

abbrev pub invariant-loop-i : goal.invariant-loop-i
invariant-loop-i l = rank_in l.names l.container ≡ l.i + rank_in (drop l.i l.names) l.container
