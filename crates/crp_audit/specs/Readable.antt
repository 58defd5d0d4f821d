-- What the report of a headline says, as it is read.
use Rattle.std.specs.Prelude.{length, map, count_by}
use Rattle.crp_said.specs.Said.{is_settled}
use Rattle.crp_said.specs.Spelled.{ReportSaid}
use Rattle.crp_audit.specs.Headline.{Handed, numbers_in, said_of, IsHeadline}

abbrev pub report_in : (h : Handed) → IsHeadline h → ReportSaid
report_in h is = record {
  numbers = numbers_in h;
  bays = map said_of is.bays;
  count = length (map said_of is.bays);
  settled = count_by (λ b. is_settled b.said) (map said_of is.bays);
}
