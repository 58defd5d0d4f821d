use Rattle.std.proofs.Common.{arith}
use Rattle.std.proofs.lemmas.Result.{err_from_is_err_and}
use Rattle.crp_plan.proofs.Interruptions.{no_transfer}
use Rattle.crp_report.proofs.printing.print_moves.Goals as goal

pub returns-in_err-lines-clause-ended : goal.returns-in_err-lines-clause-ended
returns-in_err-lines-clause-ended g c =
    let p = err_from_is_err_and c.from_residual.result c.from_residual.ensures.1 in
    rw (p.1, p.2) (0, no_transfer 0 _ _ (omega arith))
