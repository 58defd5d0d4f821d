use Rattle.crp_tree.proofs.Kept.{part_nodes, part_higher}
use Rattle.crp_tree.proofs.laws.nodes_of_parts.Goals as goal

pub returns : goal.returns
returns c = record { at = part_nodes; higher = part_higher }
