use Rattle.crp_said.specs.Spelled.{IsBayLine}
use Rattle.crp_said.proofs.CutLines.{none_begun, other_begun, bay_plain}
use Rattle.crp_said.proofs.reading.next_bay.Goals as goal

pub returns-in_default-clause-none : goal.returns-in_default-clause-none
returns-in_default-clause-none c = none_begun IsBayLine c.args.bytes.now c.in_default.ensures.none

pub returns-in_default-read_bay-clause-none : goal.returns-in_default-read_bay-clause-none
returns-in_default-read_bay-clause-none c =
    let cut = c.in-Some.ensures.found in
    other_begun IsBayLine c.args.bytes.now c.in-Some.line.now c.in-Some.rest.now bay_plain cut.0 cut.1 c.in_default-read_bay.ensures.none
