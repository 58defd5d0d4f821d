use Rattle.std.proofs.Common.{length}
use Rattle.crp_solve.proofs.workers.running.+fn-run_all-join+arg2+fn-run_all-join+arg3+run_all.Given as goal

abbrev pub decreases-join+arg2 : goal.decreases-join+arg2
decreases-join+arg2 g l = length l.others.items

abbrev pub decreases-join+arg3 : goal.decreases-join+arg3
decreases-join+arg3 g l = length l.groups.items

abbrev pub decreases-run_all : goal.decreases-run_all
decreases-run_all g l = length l.groups.items
