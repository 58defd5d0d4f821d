use Rattle.crp_report.proofs.Saying.{same_said}
use Rattle.crp_report.proofs.laws.reports_mean_one_thing.Goals as goal

pub returns : goal.returns
returns c = same_said
