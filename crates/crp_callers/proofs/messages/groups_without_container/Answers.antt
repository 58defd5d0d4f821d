use Rattle.std.proofs.Common.{sym, ap, ◌∙◌, length}
use Rattle.crp_movins.specs.Digits.{slot_of}
use Rattle.crp_movins.specs.Kinds.{kind_of}
use Rattle.crp_movins.specs.Places.{kind_at, text_at}
use Rattle.crp_movins.specs.LoadOrders.{vacant_before}
use Rattle.crp_callers.specs.TwoOrders.{loading, two_orders}
use Rattle.crp_callers.proofs.messages.groups_without_container.Goals as goal

pub returns-clause-listed : goal.returns-clause-listed
returns-clause-listed c = let (groups, vacant, _) = c.vacant_by_places.ensures.counted two_orders loading in (groups, vacant)

pub returns-clause-one : goal.returns-clause-one
unfolding kind_of kind_at text_at slot_of vacant_before
returns-clause-one c =
    λ groups vacant.
    let (others, are_vacant, counted) = c.vacant_by_places.ensures.counted two_orders loading in
    ap length (c.vacant_by_places.ensures.one_list two_orders loading groups others vacant are_vacant) ∙ sym counted
