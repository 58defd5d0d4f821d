use Rattle.crp_tree.proofs.Firsts.{first_is}
use Rattle.crp_tree.proofs.laws.first_means.Goals as goal

pub returns : goal.returns
returns c = first_is
