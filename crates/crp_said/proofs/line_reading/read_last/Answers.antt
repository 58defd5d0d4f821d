use Rattle.crp_said.proofs.FirstLine.{last_found, no_last}
use Rattle.crp_said.proofs.line_reading.read_last.Goals as goal

pub returns-in_default-clause-none : goal.returns-in_default-clause-none
returns-in_default-clause-none c = no_last c.args.line.now c.in_default.ensures

pub returns-clause-found : goal.returns-clause-found
returns-clause-found c = last_found c.args.line.now c.in-Some.count c.in-Some.settled c.in-Some.ensures
