-- Lists of orders that are accepted.
use Rattle.std.specs.Prelude.{ℕ, ◌≤◌, Bool, List, length, map}
use Rattle.std.specs.List.{list_any, IsDistinct}
use Rattle.std.specs.Str.{bytes_eq}
use Rattle.crp_movins.specs.declared.order.Order.{Order}

-- so many orders are accepted
abbrev pub max_orders : ℕ
max_orders = 10000

-- one of the orders is for this container
abbrev pub is_ordered : List Order → List ℕ → Bool
is_ordered orders container = list_any (λ order. bytes_eq order.container container) orders

-- the containers of the orders, in their order
abbrev pub ordered_containers : List Order → List (List ℕ)
ordered_containers orders = map (λ order. order.container) orders

-- no container is ordered twice, and there are no more orders than are accepted
pub record AreLoadOrders (orders : List Order) : Type 0 where
  pub once : IsDistinct bytes_eq (ordered_containers orders)
  pub few : length orders ≤ max_orders
