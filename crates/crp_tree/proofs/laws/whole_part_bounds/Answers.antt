use Rattle.crp_tree.proofs.Firsts.{whole_bounds}
use Rattle.crp_tree.proofs.laws.whole_part_bounds.Goals as goal

pub returns : goal.returns
returns c = whole_bounds
