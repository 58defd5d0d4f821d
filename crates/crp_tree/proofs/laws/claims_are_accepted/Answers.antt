use Rattle.crp_tree.proofs.Certified.{certified}
use Rattle.crp_tree.proofs.laws.claims_are_accepted.Goals as goal

pub returns : goal.returns
returns c = certified
