use Rattle.std.proofs.lemmas.Result.{IfOk-weaker}
use Rattle.crp_callers.proofs.SmallReports.{one_stated}
use Rattle.crp_callers.proofs.reports.read_relocation.Goals as goal

pub returns : goal.returns
returns c = IfOk-weaker c.read_move.result _ _ (one_stated c.one_move.ensures) c.read_move.ensures
