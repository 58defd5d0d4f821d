use Rattle.std.proofs.Common.{refl}
use Rattle.crp_movins.specs.Digits.{slot_of}
use Rattle.crp_movins.specs.Kinds.{kind_of}
use Rattle.crp_movins.specs.Places.{kind_at, text_at}
use Rattle.crp_callers.specs.TwoOrders.{loading, of_another, two_orders, upper, lower}
use Rattle.crp_callers.proofs.messages.orders_of_segments.Goals as goal

pub returns-clause-upper : goal.returns-clause-upper
unfolding kind_of kind_at text_at slot_of
returns-clause-upper c = c.orders_by_places.ensures.means two_orders loading 6 upper refl

pub returns-clause-lower : goal.returns-clause-lower
unfolding kind_of kind_at text_at slot_of
returns-clause-lower c = c.orders_by_places.ensures.means two_orders loading 9 lower refl

pub returns-clause-nothing_else : goal.returns-clause-nothing_else
unfolding kind_of kind_at text_at slot_of
returns-clause-nothing_else c = λ order ordered. let given = c.orders_by_places.ensures.given two_orders loading 9 order ordered in cc

pub returns-clause-nothing : goal.returns-clause-nothing
unfolding kind_of kind_at text_at slot_of
returns-clause-nothing c = λ order ordered. let given = c.orders_by_places.ensures.given two_orders loading 12 order ordered in cc

pub returns-clause-unread : goal.returns-clause-unread
unfolding kind_of kind_at text_at slot_of
returns-clause-unread c = λ order ordered. let given = c.orders_by_places.ensures.given two_orders of_another 6 order ordered in cc
