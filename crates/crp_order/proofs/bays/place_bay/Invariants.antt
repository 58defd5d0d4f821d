-- The number is kept of the containers of the stacks so far.
use Rattle.std.proofs.Common.{take}
use Rattle.crp_order.specs.BayProblems.{standing}
use Rattle.crp_order.specs.Groups.{Places, pointed}
use Rattle.crp_order.proofs.bays.place_bay.Given as goal

abbrev pub invariant-loop-stack : goal.invariant-loop-stack
invariant-loop-stack l = Places l.initial.bays.entries l.bays.entries (standing (pointed (take l.stack-index l.stacks))) l.bay
