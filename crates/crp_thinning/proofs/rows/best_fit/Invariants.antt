use Rattle.std.proofs.Common.{◌≤◌}
use Rattle.crp_thinning.proofs.rows.best_fit.Given as goal

abbrev pub invariant-loop-i : goal.invariant-loop-i
invariant-loop-i l = l.best ≤ l.i
