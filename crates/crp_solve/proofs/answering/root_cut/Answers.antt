use Rattle.std.proofs.Common.{[], ◌∷◌, ◌++◌, ap, ◌∙◌}
use Rattle.crp_row.specs.Symbol as symbol
use Rattle.crp_tree.specs.Tree.{CutL}
use Rattle.crp_solve.proofs.answering.root_cut.Goals as goal

pub from_row-tree-requires : goal.from_row-tree-requires
from_row-tree-requires c = (CutL, c.in_ok-push.ensures.symbols ∙ ap (λ l. l ++ symbol.CutL ∷ []) c.new-row.ensures)
