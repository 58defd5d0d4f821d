-- The number is kept of the containers so far.
use Rattle.std.proofs.Common.{take}
use Rattle.crp_order.specs.Groups.{Places}
use Rattle.crp_order.proofs.bays.place_stack.Given as goal

abbrev pub invariant-loop-container : goal.invariant-loop-container
invariant-loop-container l = Places l.initial.bays.entries l.bays.entries (take l.container-index l.stack) l.bay
