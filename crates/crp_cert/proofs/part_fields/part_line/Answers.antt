use Rattle.crp_bay.proofs.Walked.{at_means}
use Rattle.crp_cert.proofs.PartNames.{name_takes}
use Rattle.crp_cert.proofs.part_fields.part_line.Goals as goal

pub returns-clause-at : goal.returns-clause-at
returns-clause-at c =
    at_means c.args.problem.now c.in_ok-name.name c.in_ok-name.place.place c.in_ok-name.ensures.problem (name_takes c.args.problem.now c.args.bytes.now c.in_ok-name.name c.in_ok-name.place.place c.in_ok-name.rest.now c.in_ok-name.ensures.value).1
