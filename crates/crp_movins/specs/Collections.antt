-- Orders and the set of their containers. Only private clauses speak of it.
use Rattle.std.specs.Prelude.{◌≡◌, ℕ, List}
use Rattle.std.specs.List.{list_any}
use Rattle.std.specs.Str.{bytes_eq}
use denote.Ref.{Bor}
use Rattle.crp_movins.specs.declared.order.Order.{Order}
use Rattle.crp_movins.specs.Accepted.{is_ordered, AreLoadOrders}

-- the set has the containers of the orders, and no other
abbrev pub HasContainers : List Order → List (Bor (List ℕ)) → Type 0
HasContainers orders names = (name : Bor (List ℕ)) → list_any (λ n. bytes_eq name.now n.now) names ≡ is_ordered orders name.now

-- accepted orders, and the set of their containers
pub record IsCollected (orders : List Order) (names : List (Bor (List ℕ))) : Type 0 where
  pub accepted : AreLoadOrders orders
  pub containers : HasContainers orders names
