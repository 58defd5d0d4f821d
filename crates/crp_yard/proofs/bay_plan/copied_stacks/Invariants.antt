-- The stacks so far are copied.
use Rattle.std.proofs.Common.{◌≡◌, take}
use Rattle.crp_yard.proofs.bay_plan.copied_stacks.Given as goal

abbrev pub invariant-loop-stack : goal.invariant-loop-stack
invariant-loop-stack l = l.copy.items ≡ take l.stack-index l.stacks
