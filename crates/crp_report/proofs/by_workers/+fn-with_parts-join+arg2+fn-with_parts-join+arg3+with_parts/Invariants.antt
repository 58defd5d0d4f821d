use Rattle.crp_report.proofs.by_workers.+fn-with_parts-join+arg2+fn-with_parts-join+arg3+with_parts.Given as goal

abbrev pub decreases-join+arg2 : goal.decreases-join+arg2
decreases-join+arg2 g l = l.others

abbrev pub decreases-join+arg3 : goal.decreases-join+arg3
decreases-join+arg3 g l = l.own

abbrev pub decreases-with_parts : goal.decreases-with_parts
decreases-with_parts g l = l.workers
