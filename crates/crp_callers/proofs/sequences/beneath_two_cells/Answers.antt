use Rattle.std.proofs.Common.{[], ◌∷◌, refl, inl, inr, arith}
use Rattle.crp_order.specs.Slots.{IsBeneath}
use Rattle.crp_callers.specs.TwoOrders.{upper, lower}
use Rattle.crp_callers.proofs.sequences.beneath_two_cells.Goals as goal

-- both cover cell 1
stands_beneath : IsBeneath lower.slot upper.slot
stands_beneath = record { same_row = refl; lower_tier = omega arith; same_cell = (1, (refl, inl refl), (refl, inr (inl refl))) }

pub returns-clause-beneath : goal.returns-clause-beneath
returns-clause-beneath c = stands_beneath

pub returns-clause-earlier : goal.returns-clause-earlier
returns-clause-earlier c = λ containers sequence. c.beneath_comes_first.ensures (upper ∷ lower ∷ []) containers 1 0 lower upper sequence refl refl stands_beneath
