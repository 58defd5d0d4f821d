use Rattle.std.proofs.Common.{[], ◌∷◌, ◌++◌, ap, ◌∙◌}
use Rattle.crp_row.specs.Symbol as symbol
use Rattle.crp_tree.specs.Tree.{CutB}
use Rattle.crp_search_tests.proofs.gather.cut_blocking.Goals as goal

pub from_row-tree-requires : goal.from_row-tree-requires
from_row-tree-requires c = (CutB, c.in_ok-push.ensures.symbols ∙ ap (λ l. l ++ symbol.CutB ∷ []) c.new-row.ensures)
