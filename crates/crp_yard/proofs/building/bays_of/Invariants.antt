-- The bays of the entries so far have their stacks.
use Rattle.std.proofs.Common.{◌≡◌, map, take}
use Rattle.crp_yard.specs.Inventory.{stacked, bays_of}
use Rattle.crp_yard.proofs.building.bays_of.Given as goal

abbrev pub invariant-loop-i : goal.invariant-loop-i
invariant-loop-i l = l.bays.entries ≡ map (stacked l.sizes l.listing) (bays_of (take l.i l.listing))
