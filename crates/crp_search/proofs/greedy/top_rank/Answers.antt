use Rattle.std.proofs.Common.{sym}
use Rattle.crp_search.proofs.Rule.{top_last}
use Rattle.crp_search.proofs.greedy.top_rank.Goals as goal

pub returns-in-Some : goal.returns-in-Some
returns-in-Some c = top_last c.args.stack.now c.in-Some.rank.now (sym c.in-Some.ensures.value)
