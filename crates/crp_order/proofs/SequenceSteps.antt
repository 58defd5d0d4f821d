-- The containers of orders that are put in sequence.
use Rattle.std.proofs.Common.{◌≤◌, List, length, arith}
use Rattle.std.specs.Str.{bytes_eq}
use Rattle.std.proofs.lemmas.List.{length-map}
use Rattle.std.proofs.lemmas.List.Sorted.{IsPermutation-map, length_permutation}
use Rattle.std.proofs.lemmas.Map.Keys.{IsDistinct-IsPermutation}
use Rattle.crp_movins.specs.declared.order.Order.{Order}
use Rattle.crp_movins.specs.Accepted.{AreLoadOrders, ordered_containers, max_orders}
use Rattle.crp_order.specs.Sequenced.{AreSequenced}
use Rattle.crp_order.specs.Sequences.{IsStowage}
use Rattle.crp_order.proofs.Once.{turned}

pub sequenced-listed : (orders : List Order) → AreLoadOrders orders → AreSequenced (ordered_containers orders)
sequenced-listed orders accepted =
    let few : length orders ≤ max_orders = accepted.few in
    record { once = accepted.once; few = omega (arith, few, length-map orders (λ order. order.container)) }

pub sequenced-stowed : (orders stowed : List Order) → AreLoadOrders orders → IsStowage orders stowed → AreSequenced (ordered_containers stowed)
sequenced-stowed orders stowed accepted is =
    let few : length orders ≤ max_orders = accepted.few in
    record {
      once = IsDistinct-IsPermutation bytes_eq turned (ordered_containers orders) (ordered_containers stowed) (IsPermutation-map (λ order. order.container) orders stowed is.same_orders) accepted.once;
      few = omega (arith, few, length-map stowed (λ order. order.container), length_permutation orders stowed is.same_orders);
    }
