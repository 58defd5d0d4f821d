use Rattle.crp_report.proofs.by_workers.+fn-with_letters-join+arg2+fn-with_letters-join+arg3+with_letters.Given as goal

abbrev pub decreases-join+arg2 : goal.decreases-join+arg2
decreases-join+arg2 g l = l.others

abbrev pub decreases-join+arg3 : goal.decreases-join+arg3
decreases-join+arg3 g l = l.own

abbrev pub decreases-with_letters : goal.decreases-with_letters
decreases-with_letters g l = l.workers
