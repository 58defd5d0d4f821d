use Rattle.crp_json.proofs.BoundLines.{no_number_line}
use Rattle.crp_json.proofs.bound_lines.number_line.Goals as goal

pub returns-in_default-read_number-clause-none : goal.returns-in_default-read_number-clause-none
returns-in_default-read_number-clause-none c =
    let cut = c.in-Some.ensures.found in
    no_number_line c.args.text.now c.in-Some.line.now c.in-Some.rest.now c.args.words.now cut.0 cut.1 c.requires c.in_default-read_number.ensures.none
