use Rattle.std.proofs.Common.{sym}
use Rattle.csv.specs.Records.{fields_of}
use Rattle.csv.proofs.RecordFacts.{field-get}
use Rattle.crp_sizes.proofs.FieldSteps.{no_field}
use Rattle.crp_sizes.proofs.fields.field.Goals as goal

pub returns-in-Some : goal.returns-in-Some
returns-in-Some c = sym (field-get (fields_of c.args.fields.now) c.args.i c.in-Some.bytes.now (sym c.in-Some.ensures.value))

pub returns-in-None : goal.returns-in-None
returns-in-None c = sym (no_field (fields_of c.args.fields.now) c.args.i (sym c.in-None.ensures.value))
