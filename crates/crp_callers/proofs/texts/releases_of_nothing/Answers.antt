use Rattle.edi_text.specs.declared.fault.EdiFault.TheVariants.{Release}
use Rattle.crp_callers.specs.Released.{broken_off}
use Rattle.crp_callers.proofs.Released.{is_fault}
use Rattle.crp_callers.proofs.texts.releases_of_nothing.Goals as goal

pub returns-clause-fault : goal.returns-clause-fault
returns-clause-fault c = is_fault

pub returns-clause-one : goal.returns-clause-one
returns-clause-one c = λ fault faulty. c.one_fault_for_a_text.ensures broken_off fault (Release 3) faulty is_fault

pub returns-clause-unspelled : goal.returns-clause-unspelled
returns-clause-unspelled c = λ segments spelled. c.spelled_has_no_fault.ensures broken_off segments (Release 3) spelled is_fault
