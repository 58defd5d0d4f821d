-- The containers of the bays so far have their numbers.
use Rattle.crp_order.specs.Groups.{ArePlaced}
use Rattle.crp_order.proofs.bays.bays_by_container.Given as goal

abbrev pub invariant-loop-i : goal.invariant-loop-i
invariant-loop-i l = ArePlaced l.i l.yard.bays l.bays.entries
