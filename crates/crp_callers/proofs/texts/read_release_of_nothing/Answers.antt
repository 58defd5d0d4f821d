use Rattle.edi_text.specs.declared.fault.EdiFault.TheVariants.{Release}
use Rattle.crp_callers.proofs.Released.{is_fault}
use Rattle.crp_callers.proofs.texts.read_release_of_nothing.Goals as goal

pub returns : goal.returns
returns c = c.read_segments.ensures.refused (Release 3) is_fault
