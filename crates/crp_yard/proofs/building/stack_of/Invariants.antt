-- The containers at the tiers so far are in the stack.
use Rattle.std.proofs.Common.{◌≡◌}
use Rattle.crp_yard.specs.Inventory.{stack_up_to}
use Rattle.crp_yard.proofs.building.stack_of.Given as goal

abbrev pub invariant-loop-i : goal.invariant-loop-i
invariant-loop-i l = l.stack.items ≡ stack_up_to l.listing l.bay l.row l.i
