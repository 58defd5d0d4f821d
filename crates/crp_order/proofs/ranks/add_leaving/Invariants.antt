-- The containers so far stand behind the names.
use Rattle.std.proofs.Common.{◌≡◌, ◌++◌, take}
use Rattle.crp_order.specs.Groups.{pointed}
use Rattle.crp_order.proofs.ranks.add_leaving.Given as goal

abbrev pub invariant-loop-container : goal.invariant-loop-container
invariant-loop-container l = l.names.items ≡ l.initial.names.items ++ pointed (take l.container-index l.leaving)
