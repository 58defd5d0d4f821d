-- The order in which the ordered containers leave the yard.
use Rattle.std.specs.Prelude.{◌≡◌, ℕ, List}
use Rattle.std.specs.List.Sorted.{IsPermutation, IsSortedByKey, IsStableByKey}
use Rattle.std.specs.declared.cmp.Ordering.{Ordering}
use Rattle.std.specs.Ordering.{nat_cmp, ordering_then}
use Rattle.crp_movins.specs.declared.order.Order.{Order}
use Rattle.crp_movins.specs.declared.slot.Slot.{Slot}
use Rattle.crp_movins.specs.Accepted.{ordered_containers}
use Rattle.crp_order.specs.declared.sequences.Mode.{Mode}
use Rattle.crp_order.specs.declared.sequences.Mode.TheVariants.{Listed, Stowage}

-- slots by tier, then by bay, then by row, all rising
abbrev pub slot_cmp : Slot → Slot → Ordering
slot_cmp a b = ordering_then (ordering_then (nat_cmp a.tier b.tier) (nat_cmp a.bay b.bay)) (nat_cmp a.row b.row)

-- the orders by tier, bay and row of their slots, and those of one slot as they are listed
pub record IsStowage (orders stowed : List Order) : Type 0 where
  pub same_orders : IsPermutation orders stowed
  pub slots_rise : IsSortedByKey (λ order. order.slot) slot_cmp stowed
  pub one_slot_as_listed : IsStableByKey (λ order. order.slot) slot_cmp orders stowed

-- the sequence of the orders: their containers as they are listed, or by tier, bay, row and listed place
abbrev pub IsSequence : Mode → List Order → List (List ℕ) → Type 0
IsSequence Listed orders containers = containers ≡ ordered_containers orders
IsSequence Stowage orders containers = (stowed : List Order) × IsStowage orders stowed × (containers ≡ ordered_containers stowed)
