-- Those of the containers so far that are not in the yard.
use Rattle.std.proofs.Common.{◌≡◌, map, take, not}
use Rattle.std.specs.Prelude.{filter}
use Rattle.crp_yard.specs.Inventory.{stands}
use Rattle.crp_notes.proofs.containers.absent_names.Given as goal

abbrev pub invariant-loop-container : goal.invariant-loop-container
invariant-loop-container l = map (λ name. name.now) l.names.items ≡ filter (λ container. not (stands l.yard.bays container)) (take l.container-index l.container-items)
