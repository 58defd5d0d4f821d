-- None of the containers so far is alike.
use Rattle.std.proofs.Common.{◌≡◌, take, []}
use Rattle.std.specs.Prelude.{filter}
use Rattle.crp_order.specs.Alike.{are_alike}
use Rattle.crp_order.specs.Groups.{pointed}
use Rattle.crp_order.proofs.likeness.first_alike.Given as goal

abbrev pub invariant-loop-container : goal.invariant-loop-container
invariant-loop-container l = filter (are_alike l.fn.name) (take l.container-index (pointed l.containers)) ≡ []
