-- What a run reads and writes, in words.
use Rattle.std.specs.Prelude.{ℕ, List, codes}
use Rattle.crp_report.specs.declared.fault.Input.{Input}
use Rattle.crp_report.specs.declared.fault.Input.TheVariants as input
use Rattle.crp_report.specs.declared.fault.Output.{Output}
use Rattle.crp_report.specs.declared.fault.Output.TheVariants as output

-- what is read
abbrev pub input_words : Input → List ℕ
input_words input.Yard = codes "the yard list"
input_words input.Movins = codes "the message"

-- what is written
abbrev pub output_words : Output → List ℕ
output_words output.Report = codes "the report"
output_words output.Certificates = codes "the certificates"
output_words output.YardAfter = codes "the yard after the plans"
