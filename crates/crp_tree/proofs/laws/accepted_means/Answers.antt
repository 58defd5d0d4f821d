use Rattle.crp_tree.proofs.Accepted.{bounded, no_plan_at_cap, best}
use Rattle.crp_tree.proofs.laws.accepted_means.Goals as goal

pub returns : goal.returns
returns c = record { bound = bounded; no_plan = no_plan_at_cap; best = best }
