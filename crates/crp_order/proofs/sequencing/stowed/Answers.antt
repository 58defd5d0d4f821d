use Rattle.std.proofs.Common.{ℕ, rules}
use Rattle.std.proofs.lemmas.List.Sorted.{answers_always}
use Rattle.crp_movins.specs.declared.order.Order.{Order}
use Rattle.crp_order.proofs.sequencing.stowed.Goals as goal

abbrev key : Order → ℕ × ℕ × ℕ
key order = (order.slot.tier, order.slot.bay, order.slot.row)

pub returns : goal.returns
returns c = record {
  same_orders = c.in_ok-sort_by_key.ensures.permutation;
  slots_rise = c.in_ok-sort_by_key.ensures.sorted key (answers_always _ _ _ (λ f a r g h. search rules));
  one_slot_as_listed = c.in_ok-sort_by_key.ensures.stable key (answers_always _ _ _ (λ f a r g h. search rules));
}
