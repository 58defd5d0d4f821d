use Rattle.crp_tree.proofs.Firsts.{as_number}
use Rattle.crp_tree.proofs.laws.needs_as_numbers.Goals as goal

pub returns : goal.returns
returns c = as_number
