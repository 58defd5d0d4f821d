use Rattle.crp_json.proofs.NoEntry.{no_lines, no_entry}
use Rattle.crp_json.proofs.reading.read_entry.Goals as goal

pub returns-in_default-clause-none : goal.returns-in_default-clause-none
returns-in_default-clause-none c = no_lines c.args.text.now c.in_default.ensures.none

pub returns-in_default-read_bay-clause-none : goal.returns-in_default-read_bay-clause-none
returns-in_default-read_bay-clause-none c =
    let cut = c.in-Some.ensures.found in
    no_entry c.args.text.now c.in-Some.line.now c.in-Some.rest.now cut.0 cut.1 c.in_default-read_single.ensures.none (λ is. absurd (c.in_default-read_bay.ensures.none is))

pub returns-in_default-2-clause-none : goal.returns-in_default-2-clause-none
returns-in_default-2-clause-none c =
    let cut = c.in-Some.ensures.found in
    no_entry c.args.text.now c.in-Some.line.now c.in-Some.rest.now cut.0 cut.1 c.in_default-read_single.ensures.none (λ is. rw c.in_default-2.is at c.in_ok-moves.ensures.none)
