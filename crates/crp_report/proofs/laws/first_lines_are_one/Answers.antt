use Rattle.crp_report.proofs.Firsts.{same_first, same_firsts}
use Rattle.crp_report.proofs.laws.first_lines_are_one.Goals as goal

pub returns : goal.returns
returns c = record { answers = same_first; runs = same_firsts }
