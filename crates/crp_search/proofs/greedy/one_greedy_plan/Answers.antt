use Rattle.crp_search.proofs.Greedily.{same_greedy}
use Rattle.crp_search.proofs.greedy.one_greedy_plan.Goals as goal

pub returns : goal.returns
returns c p path other is g h = same_greedy p path other is g h
