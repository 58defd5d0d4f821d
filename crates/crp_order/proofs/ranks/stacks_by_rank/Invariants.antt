-- The ranks of the stacks so far.
use Rattle.std.proofs.Common.{◌≡◌, take}
use Rattle.crp_plan.specs.Faults.{stacks_of}
use Rattle.crp_order.specs.BayProblems.{ranks_in}
use Rattle.crp_order.specs.Groups.{pointed}
use Rattle.crp_order.proofs.ranks.stacks_by_rank.Given as goal

abbrev pub invariant-loop-stack : goal.invariant-loop-stack
invariant-loop-stack l = stacks_of l.ranks.items ≡ ranks_in l.names (pointed (take l.stack-index l.stacks))
