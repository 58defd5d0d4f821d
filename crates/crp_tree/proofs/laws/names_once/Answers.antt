use Rattle.crp_tree.proofs.Given.{no_name_twice}
use Rattle.crp_tree.proofs.laws.names_once.Goals as goal

pub returns : goal.returns
returns c = no_name_twice
