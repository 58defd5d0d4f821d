use Rattle.crp_solve.proofs.start.started.Goals as goal

pub returns-clause-start : goal.returns-clause-start
returns-clause-start c = record {
  best_met = record { is_problem = c.count_of-first.ensures.problem; plan_is = c.start_plan-known.ensures.plan; no_more = c.start_plan-known.ensures.begins };
  greedy = c.start_plan-known.ensures.greedy;
}
