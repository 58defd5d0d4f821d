-- Those of the containers so far that stay stand behind the names.
use Rattle.std.proofs.Common.{◌≡◌, ◌++◌, take, not}
use Rattle.std.specs.Prelude.{filter}
use Rattle.crp_yard.specs.Inventory.{is_among}
use Rattle.crp_order.specs.Groups.{pointed}
use Rattle.crp_order.proofs.ranks.add_staying.Given as goal

abbrev pub invariant-loop-container : goal.invariant-loop-container
invariant-loop-container l = l.names.items ≡ l.initial.names.items ++ filter (λ container. not (is_among (pointed l.leaving) container)) (take l.container-index l.stack)
