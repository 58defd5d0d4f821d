use Rattle.crp_json.proofs.BoundLines.{no_title_line}
use Rattle.crp_json.proofs.bound_lines.title_line.Goals as goal

pub returns-in_default-read_title-clause-none : goal.returns-in_default-read_title-clause-none
returns-in_default-read_title-clause-none c =
    let cut = c.in-Some.ensures.found in
    no_title_line c.args.text.now c.in-Some.line.now c.in-Some.rest.now cut.0 cut.1 c.in_default-read_title.ensures.none
