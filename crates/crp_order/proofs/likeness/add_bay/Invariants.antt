-- The containers of the stacks so far.
use Rattle.std.proofs.Common.{◌≡◌, ◌++◌, take}
use Rattle.crp_order.specs.BayProblems.{standing}
use Rattle.crp_order.specs.Groups.{pointed}
use Rattle.crp_order.proofs.likeness.add_bay.Given as goal

abbrev pub invariant-loop-stack : goal.invariant-loop-stack
invariant-loop-stack l = pointed l.containers.items ≡ pointed l.initial.containers.items ++ standing (pointed (take l.stack-index l.stacks))
