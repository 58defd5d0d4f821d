use Rattle.crp_tree.proofs.Firsts.{above_all, by_earlier}
use Rattle.crp_tree.proofs.laws.needs_pass_on.Goals as goal

pub returns : goal.returns
returns c = record { above = above_all; earlier = by_earlier }
