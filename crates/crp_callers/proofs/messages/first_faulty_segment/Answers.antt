use Rattle.std.proofs.Common.{refl}
use Rattle.crp_movins.specs.Kinds.{kind_of}
use Rattle.crp_movins.specs.Places.{kind_at, text_at, elements_at}
use Rattle.crp_movins.specs.Faults.{is_out_of_place, fault_at}
use Rattle.crp_movins.specs.declared.fault.MovinsFault.TheVariants.{SlotNumber}
use Rattle.crp_callers.specs.TwoOrders.{loading, two_orders, two_faults}
use Rattle.crp_callers.proofs.messages.first_faulty_segment.Goals as goal

pub returns-clause-first : goal.returns-clause-first
unfolding kind_of kind_at text_at elements_at is_out_of_place fault_at
returns-clause-first c = c.first_fault_is_least.ensures.faulty two_faults loading 15 (SlotNumber 7) refl

pub returns-clause-none : goal.returns-clause-none
unfolding kind_of kind_at text_at elements_at is_out_of_place fault_at
returns-clause-none c = c.first_fault_is_least.ensures.faultless two_orders loading 15 refl
