use Rattle.std.proofs.Common.{ℕ, sym, ap, ◌∙◌, map}
use Rattle.crp_movins.specs.declared.order.Order.{Order}
use Rattle.crp_movins.specs.Digits.{slot_of}
use Rattle.crp_movins.specs.Kinds.{kind_of}
use Rattle.crp_movins.specs.Places.{kind_at, text_at}
use Rattle.crp_callers.specs.TwoOrders.{loading, two_orders}
use Rattle.crp_callers.proofs.messages.orders_as_listed.Goals as goal

pub returns-clause-listed : goal.returns-clause-listed
returns-clause-listed c = let (placed, ordered, _) = c.orders_stand_by_place.ensures.placed two_orders loading in (placed, ordered)

pub returns-clause-two : goal.returns-clause-two
unfolding kind_of kind_at text_at slot_of
returns-clause-two c =
    λ placed ordered.
    let (others, are_ordered, listed) = c.orders_stand_by_place.ensures.placed two_orders loading in
    let same = c.orders_stand_by_place.ensures.one_list two_orders loading placed others ordered are_ordered in
    ap (λ (list : _). map (λ (p : ℕ × Order). p.1) list) same ∙ sym listed
