use Rattle.crp_tree.proofs.Firsts.{one_is}
use Rattle.crp_tree.proofs.laws.one_first_best.Goals as goal

pub returns : goal.returns
returns c = one_is
