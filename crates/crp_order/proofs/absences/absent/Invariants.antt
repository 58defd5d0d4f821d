-- Those that stand nowhere among the containers so far are counted.
use Rattle.std.proofs.Common.{◌≡◌, take, not}
use Rattle.std.specs.Prelude.{count_by}
use Rattle.crp_yard.specs.Inventory.{stands}
use Rattle.crp_order.proofs.absences.absent.Given as goal

abbrev pub invariant-loop-container : goal.invariant-loop-container
invariant-loop-container l = l.absent ≡ count_by (λ container. not (stands l.yard.bays container)) (take l.container-index l.container-items)
