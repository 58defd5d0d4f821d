-- The ranks so far are named.
use Rattle.std.proofs.Common.{◌≡◌, map, take}
use Rattle.crp_yard.specs.Ranks.{name_of_rank}
use Rattle.crp_yard.proofs.leaving.named_stack.Given as goal

abbrev pub invariant-loop-rank : goal.invariant-loop-rank
invariant-loop-rank l = l.stack.items ≡ map (name_of_rank l.names) (take l.rank-index l.ranks)
