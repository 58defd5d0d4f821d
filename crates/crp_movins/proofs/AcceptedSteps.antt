-- One order more.
use Rattle.std.proofs.lemmas.List.Folds.{list_any-append}
use Rattle.std.proofs.Common.{◌≡◌, ℕ, ◌<◌, Bool, true, false, cond, ◌||◌, List, [], ◌∷◌, ◌++◌, length, refl, ◌∙◌, arith, length-append}
use Rattle.std.specs.List.{list_any, IsDistinct}
use Rattle.std.specs.Str.{bytes_eq}
use Rattle.std.proofs.lemmas.Cmp.{nat_list_eq_equiv}
use Rattle.std.proofs.lemmas.List.{map_push}
use Rattle.std.proofs.lemmas.Map.Keys.{IsDistinct-push}
use Rattle.crp_movins.specs.declared.order.Order.{Order}
use Rattle.crp_movins.specs.Accepted.{max_orders, is_ordered, ordered_containers, AreLoadOrders}

-- a container that is not ordered is none of the orders' containers
names-ordered : (orders : List Order) (name : List ℕ) → list_any (bytes_eq name) (ordered_containers orders) ≡ is_ordered orders name
names-ordered [] name = refl
names-ordered (order ∷ orders) name =
    let here : bytes_eq name order.container ≡ bytes_eq order.container name = nat_list_eq_equiv.symm name order.container in
    let before = names-ordered orders name in
    rw (here, before) refl

pub AreLoadOrders-none : AreLoadOrders []
unfolding Rattle.std.specs.List.IsDistinct
AreLoadOrders-none = record { once = tt; few = omega arith }

pub AreLoadOrders-push : (orders : List Order) (order : Order) → AreLoadOrders orders → is_ordered orders order.container ≡ false → length orders < max_orders → AreLoadOrders (orders ++ order ∷ [])
AreLoadOrders-push orders order accepted fresh room = record {
  once = rw map_push (IsDistinct-push nat_list_eq_equiv (ordered_containers orders) order.container accepted.once (names-ordered orders order.container ∙ fresh));
  few = omega (arith, length-append orders (order ∷ []));
}

-- a container is ordered where it is the last one's, or was ordered before
pub is_ordered-push : (orders : List Order) (order : Order) (name : List ℕ) (known : Bool) → known ≡ is_ordered orders name → cond (bytes_eq order.container name) true known ≡ is_ordered (orders ++ order ∷ []) name
is_ordered-push orders order name known h =
    rw (h, list_any-append) (either (bytes_eq order.container name) (is_ordered orders name))
  where
    either : (b c : Bool) → cond b true c ≡ (c || (b || false))
    either true true = refl
    either true false = refl
    either false true = refl
    either false false = refl
