use Rattle.std.proofs.Common.{codes, refl, arith}
use Rattle.std.specs.List.{IsDistinct}
use Rattle.crp_order.specs.Sequenced.{AreSequenced}
use Rattle.crp_callers.specs.TwoOrders.{lower_first}
use Rattle.crp_callers.specs.TwoBays.{two_bays, first_bay}
use Rattle.crp_callers.proofs.Standing.{is_yard}
use Rattle.crp_callers.proofs.sequences.ranks_of_a_bay.Goals as goal

sequenced : AreSequenced lower_first
unfolding IsDistinct
sequenced = record { once = ((refl, tt), (tt, tt)); few = omega arith }

pub returns-clause-stays : goal.returns-clause-stays
returns-clause-stays c = (record { row = 0; tier = 1; container = codes "STAYS"; rank = 3; stands = refl; ranked = refl }, refl, refl)

pub returns-clause-leave_first : goal.returns-clause-leave_first
returns-clause-leave_first c = (c.ranks_by_places.ensures two_bays lower_first 0 first_bay is_yard sequenced refl).leave_first

pub returns-clause-in_sequence : goal.returns-clause-in_sequence
returns-clause-in_sequence c = (c.ranks_by_places.ensures two_bays lower_first 0 first_bay is_yard sequenced refl).in_sequence

pub returns-clause-stay_behind : goal.returns-clause-stay_behind
returns-clause-stay_behind c = (c.ranks_by_places.ensures two_bays lower_first 0 first_bay is_yard sequenced refl).stay_behind

pub returns-clause-by_row_then_tier : goal.returns-clause-by_row_then_tier
returns-clause-by_row_then_tier c = (c.ranks_by_places.ensures two_bays lower_first 0 first_bay is_yard sequenced refl).by_row_then_tier
