-- The stacks so far.
use Rattle.std.proofs.Common.{◌≡◌, take}
use Rattle.crp_order.specs.Groups.{stacks_numbered, pointed}
use Rattle.crp_order.proofs.bays.stacks_of.Given as goal

abbrev pub invariant-loop-i : goal.invariant-loop-i
invariant-loop-i l = pointed l.stacks.items ≡ take l.i (stacks_numbered l.yard l.bay)
