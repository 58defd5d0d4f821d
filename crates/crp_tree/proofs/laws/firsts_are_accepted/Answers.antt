use Rattle.crp_tree.proofs.Firsts.{first_certified}
use Rattle.crp_tree.proofs.laws.firsts_are_accepted.Goals as goal

pub returns : goal.returns
returns c = first_certified
