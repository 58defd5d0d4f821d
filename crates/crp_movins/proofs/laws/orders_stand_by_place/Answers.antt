use Rattle.std.proofs.Common.{ℕ}
use Rattle.crp_movins.specs.declared.order.Order.{Order}
use Rattle.crp_movins.specs.ByPlaces.{IsOrdered}
use Rattle.crp_movins.proofs.Rising.{one_list}
use Rattle.crp_movins.proofs.Listed.{orders-placed}
use Rattle.crp_movins.proofs.laws.orders_stand_by_place.Goals as goal

pub returns : goal.returns
returns c = record { placed = orders-placed; one_list = λ segments loading. one_list (ℕ × Order) (λ p. p.0) (λ p. IsOrdered segments loading p.0 p.1) }
