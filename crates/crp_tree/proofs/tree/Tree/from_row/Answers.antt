use Rattle.crp_tree.specs.Symbols.{whole}
use Rattle.crp_tree.proofs.tree.Tree.from_row.Goals as goal

pub invariant_of-result : goal.invariant_of-result
invariant_of-result c = whole c.args.row.symbols c.requires.0 c.requires.1

pub returns : goal.returns
returns c = whole c.args.row.symbols c.requires.0 c.requires.1
