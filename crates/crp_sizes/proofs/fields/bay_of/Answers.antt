use Rattle.std.proofs.Common.{◌∙◌, ap}
use Rattle.csv.specs.Records.{fields_of}
use Rattle.crp_plan.specs.BayNames.{IsYardBay}
use Rattle.crp_sizes.specs.Fields.{number_of}
use Rattle.crp_sizes.proofs.BaySteps.{named}
use Rattle.crp_sizes.proofs.fields.bay_of.Goals as goal

pub unreachable-requires : goal.unreachable-requires
unreachable-requires c =
    let name : IsYardBay (record { block = c.field-block.result.now; bay = c.number_of-number.result }) =
    rw c.field-block.ensures (named (fields_of c.args.fields.now) c.number_of-number.result c.requires.block c.requires.numbered (c.number_of-number.ensures.value ∙ ap number_of c.field.ensures) c.number_of-number.ensures.small)
    in cc (c.in-None.ensures.accepted.1 name)
