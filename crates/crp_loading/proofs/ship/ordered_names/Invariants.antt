-- The names so far.
use Rattle.std.proofs.Common.{◌≡◌, map, take}
use Rattle.crp_loading.proofs.ship.ordered_names.Given as goal

abbrev pub invariant-loop-order : goal.invariant-loop-order
invariant-loop-order l = map (λ name. name.now) l.names.items ≡ map (λ order. order.container) (take l.order-index l.orders)
