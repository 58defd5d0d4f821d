use Rattle.crp_said.specs.Spelled.{IsOrdersLine}
use Rattle.crp_said.proofs.CutLines.{none_begun, other_begun, orders_plain}
use Rattle.crp_said.proofs.reading.first_line.Goals as goal

pub returns-in_default-clause-none : goal.returns-in_default-clause-none
returns-in_default-clause-none c = none_begun IsOrdersLine c.args.bytes.now c.in_default.ensures.none

pub returns-in_default-read_numbers-clause-none : goal.returns-in_default-read_numbers-clause-none
returns-in_default-read_numbers-clause-none c =
    let cut = c.in-Some.ensures.found in
    other_begun IsOrdersLine c.args.bytes.now c.in-Some.line.now c.in-Some.rest.now orders_plain cut.0 cut.1 c.in_default-read_numbers.ensures.none
