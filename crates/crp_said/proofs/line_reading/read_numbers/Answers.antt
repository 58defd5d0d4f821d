use Rattle.crp_said.proofs.FirstLine.{counts_found, no_counts}
use Rattle.crp_said.proofs.line_reading.read_numbers.Goals as goal

pub returns-in_default-clause-none : goal.returns-in_default-clause-none
returns-in_default-clause-none c = no_counts c.args.line.now c.in_default.ensures

pub returns-clause-found : goal.returns-clause-found
returns-clause-found c = counts_found c.args.line.now c.in-Some.numbers c.in-Some.ensures
