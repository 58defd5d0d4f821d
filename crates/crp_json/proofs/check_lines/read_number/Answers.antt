use Rattle.crp_json.proofs.CheckLines.{tagged_found, no_tagged}
use Rattle.crp_json.proofs.check_lines.read_number.Goals as goal

pub returns-in_default-clause-none : goal.returns-in_default-clause-none
returns-in_default-clause-none c = no_tagged c.args.words.now c.args.line.now c.in_default.ensures

pub returns-clause-found : goal.returns-clause-found
returns-clause-found c = tagged_found c.args.words.now c.args.line.now c.in-Some.n c.in-Some.ensures
