use Rattle.std.proofs.Common.{◌∙◌, sym}
use Rattle.crp_json.proofs.CheckLines.{settled_is, no_shown, no_settled}
use Rattle.crp_json.proofs.check_lines.read_settled.Goals as goal

pub returns-in_default-clause-none : goal.returns-in_default-clause-none
returns-in_default-clause-none c = no_shown c.args.line.now c.in_default.ensures.none

pub returns-in_default-settled-clause-none : goal.returns-in_default-settled-clause-none
returns-in_default-settled-clause-none c =
    let read = c.in-Some.ensures.found in
    no_settled c.args.line.now c.in-Some.bay c.in-Some.said read.0 read.1 read.2 (sym c.in_default-settled.ensures)

pub returns-clause-found : goal.returns-clause-found
returns-clause-found c =
    let read = c.in-Some.ensures.found in
    let same = settled_is c.in-Some.bay c.in-Some.said c.in-Some-settled.verdict (sym c.in-Some-settled.ensures) read.1 in
    (read.0, same.0, read.2 ∙ same.1)
