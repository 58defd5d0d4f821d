-- The rows so far have their stacks.
use Rattle.std.proofs.Common.{◌≡◌}
use Rattle.crp_yard.specs.Inventory.{stacks_up_to}
use Rattle.crp_yard.proofs.building.stacks_of.Given as goal

abbrev pub invariant-loop-i : goal.invariant-loop-i
invariant-loop-i l = l.stacks.items ≡ stacks_up_to l.listing l.bay l.heights l.i
