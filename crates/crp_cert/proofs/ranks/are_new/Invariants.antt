use Rattle.std.proofs.Common.{All, take}
use Rattle.crp_plan.specs.Faults.{stacks_of}
use Rattle.crp_cert.specs.Reading.{IsNewRank}
use Rattle.crp_cert.proofs.ranks.are_new.Given as goal

abbrev pub invariant-loop-rank : goal.invariant-loop-rank
invariant-loop-rank l = All (IsNewRank l.containers l.stack (stacks_of l.stacks)) (take l.rank-index l.stack)
