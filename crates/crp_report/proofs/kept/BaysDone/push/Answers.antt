use Rattle.std.proofs.Common.{rules}
use Rattle.crp_report.proofs.Keeping.{kept_more}
use Rattle.crp_report.proofs.kept.BaysDone.push.Goals as goal

pub returns : goal.returns
returns c answered are = kept_more answered (record { stated = c.args.bay.now; solved = c.args.solved }) _ _ are (search rules) (search rules) (search rules) (search rules)
