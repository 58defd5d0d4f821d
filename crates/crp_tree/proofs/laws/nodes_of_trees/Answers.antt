use Rattle.crp_tree.proofs.Nodes.{own_node, nodes_at, paths_rise, below_branch, apart}
use Rattle.crp_tree.proofs.laws.nodes_of_trees.Goals as goal

pub returns : goal.returns
returns c = record { own = own_node; at = nodes_at; rising = paths_rise; below = below_branch; apart = apart }
