use Rattle.crp_tree.proofs.Accepted.{floor_covers}
use Rattle.crp_tree.proofs.laws.parts_cover.Goals as goal

pub returns : goal.returns
returns c = floor_covers
