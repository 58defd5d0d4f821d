-- Of the containers so far each that stands in a bay is in the group of that bay.
use Rattle.std.proofs.Common.{map, take}
use Rattle.crp_order.specs.Groups.{pointed, AreGroups}
use Rattle.crp_order.proofs.groups.leaving_by_bay.Given as goal

abbrev pub invariant-loop-container : goal.invariant-loop-container
invariant-loop-container l = AreGroups (take l.container-index l.container-items) l.yard.bays (map (λ group. pointed group.items) l.groups.items)
