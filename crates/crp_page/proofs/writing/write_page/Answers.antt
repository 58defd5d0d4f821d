use Rattle.crp_plan.specs.declared.transfer.WriteFault.TheVariants as fault
use Rattle.crp_page.proofs.Writes.{got_all, calls_all, stopped}
use Rattle.crp_page.proofs.writing.write_page.Goals as goal

pub returns-clause-all : goal.returns-clause-all
returns-clause-all g c = got_all c.write_parts.result _ _ _ c.write_parts.ensures

pub returns-clause-part : goal.returns-clause-part
returns-clause-part g c = λ is. (stopped c.write_parts.result fault.Failed _ _ _ c.write_parts.ensures is).got

pub returns-clause-memory : goal.returns-clause-memory
returns-clause-memory g c = λ is. (stopped c.write_parts.result fault.Memory _ _ _ c.write_parts.ensures is).got

pub returns-clause-done : goal.returns-clause-done
returns-clause-done g c = calls_all c.write_parts.result _ _ _ c.write_parts.ensures

pub returns-clause-gave_up : goal.returns-clause-gave_up
returns-clause-gave_up g c = λ is. (stopped c.write_parts.result fault.Failed _ _ _ c.write_parts.ensures is).calls

pub returns-clause-stopped : goal.returns-clause-stopped
returns-clause-stopped g c = λ is. (stopped c.write_parts.result fault.Memory _ _ _ c.write_parts.ensures is).calls
