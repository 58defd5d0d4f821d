use Rattle.std.proofs.Common.{refl}
use Rattle.crp_yard.specs.Records.{entry_of}
use Rattle.crp_yard.specs.Faults.{fault_of, fault_behind, fault_at, first_fault}
use Rattle.crp_callers.specs.TwoBays.{sizes, listed, two_float}
use Rattle.crp_callers.proofs.yards.first_to_float.Goals as goal

pub returns-clause-first : goal.returns-clause-first
unfolding entry_of fault_of fault_behind fault_at first_fault
returns-clause-first c = (c.floating_by_places.ensures.first sizes two_float 3).0 refl

pub returns-clause-one : goal.returns-clause-one
unfolding entry_of fault_of fault_behind fault_at first_fault
returns-clause-one c = λ n floats. let fault = (c.floating_by_places.ensures.first sizes two_float n).1 floats in cc

pub returns-clause-none : goal.returns-clause-none
unfolding entry_of fault_of fault_behind fault_at first_fault
returns-clause-none c = (c.floating_by_places.ensures.none sizes listed).0 refl

pub returns-clause-some : goal.returns-clause-some
unfolding entry_of fault_of fault_behind fault_at first_fault
returns-clause-some c = λ none. let fault = (c.floating_by_places.ensures.none sizes two_float).1 none in cc
