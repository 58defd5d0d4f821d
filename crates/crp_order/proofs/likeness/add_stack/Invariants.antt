-- The containers of the stack so far.
use Rattle.std.proofs.Common.{◌≡◌, ◌++◌, take}
use Rattle.crp_order.specs.Groups.{pointed}
use Rattle.crp_order.proofs.likeness.add_stack.Given as goal

abbrev pub invariant-loop-container : goal.invariant-loop-container
invariant-loop-container l = pointed l.containers.items ≡ pointed l.initial.containers.items ++ take l.container-index l.stack
