use Rattle.std.proofs.Common.{refl}
use Rattle.crp_yard.specs.Records.{entry_of}
use Rattle.crp_yard.specs.Faults.{fault_of, fault_behind, fault_at}
use Rattle.crp_yard.specs.declared.fault.YardFault.TheVariants.{PlaceTaken}
use Rattle.crp_callers.specs.TwoBays.{sizes, listed, twice_faulty}
use Rattle.crp_callers.proofs.yards.first_faulty_record.Goals as goal

pub returns-clause-first : goal.returns-clause-first
unfolding entry_of fault_of fault_behind fault_at
returns-clause-first c = c.first_fault_is_least.ensures.faulty sizes twice_faulty 4 (PlaceTaken 3) refl

pub returns-clause-none : goal.returns-clause-none
unfolding entry_of fault_of fault_behind fault_at
returns-clause-none c = c.first_fault_is_least.ensures.faultless sizes listed 6 refl
