-- Those of the containers so far that do not stand in other bays.
use Rattle.std.proofs.Common.{◌≡◌, take}
use Rattle.crp_order.specs.OfBays.{of_bays}
use Rattle.crp_order.proofs.choosing.of_bays.Given as goal

abbrev pub invariant-loop-container : goal.invariant-loop-container
invariant-loop-container l = l.list.items ≡ of_bays l.names l.yard (take l.container-index l.container-items)
