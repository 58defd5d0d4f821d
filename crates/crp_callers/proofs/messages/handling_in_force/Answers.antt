use Rattle.std.proofs.Common.{refl}
use Rattle.crp_movins.specs.Kinds.{kind_of, settles_code}
use Rattle.crp_movins.specs.Places.{kind_at}
use Rattle.crp_callers.specs.TwoOrders.{two_orders}
use Rattle.crp_callers.proofs.messages.handling_in_force.Goals as goal

pub returns-clause-last : goal.returns-clause-last
unfolding kind_of kind_at
returns-clause-last c =
    let (below, such, none_between) = c.last_is_last.ensures.found settles_code two_orders 13 10 refl in
    record { below = below; such = such; none_between = none_between }

pub returns-clause-none : goal.returns-clause-none
unfolding kind_of kind_at
returns-clause-none c = c.last_is_last.ensures.none settles_code two_orders 2 refl
