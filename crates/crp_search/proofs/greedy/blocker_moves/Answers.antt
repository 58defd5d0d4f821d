use Rattle.crp_search.proofs.Rule.{blocker_is_moved}
use Rattle.crp_search.proofs.greedy.blocker_moves.Goals as goal

pub returns : goal.returns
returns c s from to t sound k = blocker_is_moved s from to t sound k
