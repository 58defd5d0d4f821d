-- Lists of containers that can be a sequence.
use Rattle.std.specs.Prelude.{◌≤◌, ℕ, List, length}
use Rattle.std.specs.List.{IsDistinct}
use Rattle.std.specs.Str.{bytes_eq}
use Rattle.crp_movins.specs.Accepted.{max_orders}

-- no container comes twice, and there are no more than can be ordered
pub record AreSequenced (containers : List (List ℕ)) : Type 0 where
  pub once : IsDistinct bytes_eq containers
  pub few : length containers ≤ max_orders
