-- Two orders by stowage.
use Rattle.std.proofs.Common.{◌≡◌, ◌<◌, ◌≤◌, ◌⊎◌, Bool, true, false, not, ◌&&◌, [], ◌∷◌, refl, ⊎_elim, inl, inr, arith}
use Rattle.std.specs.Prelude.{filter}
use Rattle.std.specs.Ordering.{is_lt}
use Rattle.std.specs.List.Sorted.{IsSortedByKey, IsStableByKey, ties}
use Rattle.std.proofs.lemmas.Bool.{cases_lt, lt-ltb}
use Rattle.crp_movins.specs.declared.order.Order.{Order}
use Rattle.crp_order.specs.declared.sequences.Mode.TheVariants.{Stowage}
use Rattle.crp_order.specs.Sequences.{slot_cmp, IsSequence}
use Rattle.crp_callers.specs.TwoOrders.{upper, lower, lower_first}

rises : IsSortedByKey (λ (order : Order). order.slot) slot_cmp (lower ∷ upper ∷ [])
rises k d low high = let first : k ≡ 0 = omega arith in rw first refl

-- where a test fails one of the two, their order does not matter
one_at_most : (test : Order → Bool) → (test lower ≡ false) ⊎ (test upper ≡ false) → filter test (lower ∷ upper ∷ []) ≡ filter test (upper ∷ lower ∷ [])
one_at_most test (inl fails) = rw fails refl
one_at_most test (inr fails) = rw fails refl

not_both : (b : Bool) → (not b && false) ≡ false
not_both true = refl
not_both false = refl

-- no order ties with both
as_listed : IsStableByKey (λ (order : Order). order.slot) slot_cmp (upper ∷ lower ∷ []) (lower ∷ upper ∷ [])
as_listed x = one_at_most (ties (λ (a b : Order). is_lt (slot_cmp a.slot b.slot)) x) (⊎_elim
    (λ (low : x.slot.tier < 84). inr (rw (lt-ltb x.slot.tier 84 low) refl))
    (λ (high : 84 ≤ x.slot.tier). inl (rw (lt-ltb 82 x.slot.tier (omega arith)) (not_both _)))
    (cases_lt x.slot.tier 84))

pub is_sequence : IsSequence Stowage (upper ∷ lower ∷ []) lower_first
is_sequence = (
  lower ∷ upper ∷ [],
  record {
    same_orders = record { moves = (0, 1) ∷ []; below = (omega arith, omega arith, tt); is = refl };
    slots_rise = rises;
    one_slot_as_listed = as_listed;
  },
  refl,
)
