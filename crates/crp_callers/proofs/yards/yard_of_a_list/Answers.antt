use Rattle.std.proofs.Common.{refl, arith}
use Rattle.crp_yard.specs.Records.{entry_of}
use Rattle.crp_yard.specs.Faults.{fault_of, fault_behind, fault_at, first_fault}
use Rattle.crp_callers.specs.TwoBays.{sizes, listed, placed, first_bay, second_bay}
use Rattle.crp_callers.proofs.yards.yard_of_a_list.Goals as goal

pub returns-clause-stands : goal.returns-clause-stands
unfolding entry_of fault_of fault_behind fault_at first_fault
returns-clause-stands c = (c.inventory_by_places.ensures sizes listed refl).stands

pub returns-clause-stated : goal.returns-clause-stated
unfolding entry_of fault_of fault_behind fault_at first_fault
returns-clause-stated c = (c.inventory_by_places.ensures sizes listed refl).stated

pub returns-clause-named : goal.returns-clause-named
unfolding entry_of fault_of fault_behind fault_at first_fault
returns-clause-named c = (c.inventory_by_places.ensures sizes listed refl).named 1 second_bay refl

pub returns-clause-first_seen : goal.returns-clause-first_seen
unfolding entry_of fault_of fault_behind fault_at first_fault
returns-clause-first_seen c = λ i j first second. (c.inventory_by_places.ensures sizes listed refl).first_seen 0 1 i j first_bay second_bay (omega arith) refl refl first second

pub returns-clause-second : goal.returns-clause-second
returns-clause-second c = λ records i container none there. c.each_stands_in_its_place.ensures sizes records i (placed 1 1 2 container) none there
