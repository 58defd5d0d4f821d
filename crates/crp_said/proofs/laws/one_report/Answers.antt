use Rattle.crp_said.proofs.OneReport.{one_report, not_both, one_line}
use Rattle.crp_said.proofs.laws.one_report.Goals as goal

pub returns : goal.returns
returns c = record { one = one_report; apart = not_both; first = one_line }
