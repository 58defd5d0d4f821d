-- The orders so far.
use Rattle.std.proofs.Common.{◌≡◌, take}
use Rattle.crp_movins.proofs.order.Orders.copy.Given as goal

abbrev pub invariant-loop-order : goal.invariant-loop-order
invariant-loop-order l = l.list.items ≡ take l.order-index l.self.list
