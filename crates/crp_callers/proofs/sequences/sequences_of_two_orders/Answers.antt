use Rattle.std.proofs.Common.{[], ◌∷◌, codes, refl}
use Rattle.crp_order.specs.declared.sequences.Mode.TheVariants.{Listed, Stowage}
use Rattle.crp_callers.specs.TwoOrders.{upper, lower, lower_first}
use Rattle.crp_callers.proofs.Stowed.{is_sequence}
use Rattle.crp_callers.proofs.sequences.sequences_of_two_orders.Goals as goal

pub returns-clause-stowed : goal.returns-clause-stowed
returns-clause-stowed c = is_sequence

pub returns-clause-one_stowed : goal.returns-clause-one_stowed
returns-clause-one_stowed c = λ containers is. c.one_sequence.ensures Stowage (upper ∷ lower ∷ []) containers lower_first is is_sequence

pub returns-clause-one_listed : goal.returns-clause-one_listed
returns-clause-one_listed c = λ containers is. c.one_sequence.ensures Listed (upper ∷ lower ∷ []) containers (codes "UPPER" ∷ codes "LOWER" ∷ []) is refl
