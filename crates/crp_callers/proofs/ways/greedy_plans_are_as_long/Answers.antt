use Rattle.std.proofs.Common.{length, ap}
use Rattle.crp_callers.proofs.ways.greedy_plans_are_as_long.Goals as goal

pub returns : goal.returns
returns c = λ p path other is greedy again. ap length (c.one_greedy_plan.ensures p path other is greedy again)
