-- The containers of the bays so far.
use Rattle.std.proofs.Common.{◌≡◌, take}
use Rattle.crp_yard.specs.Inventory.{containers_of}
use Rattle.crp_order.specs.Groups.{pointed}
use Rattle.crp_order.proofs.likeness.containers_of.Given as goal

abbrev pub invariant-loop-i : goal.invariant-loop-i
invariant-loop-i l = pointed l.containers.items ≡ containers_of (take l.i l.yard.bays)
