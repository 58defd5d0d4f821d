use Rattle.std.proofs.Common.{[], ◌∷◌, ◌++◌, ap, ◌∙◌}
use Rattle.crp_row.specs.Symbol as symbol
use Rattle.crp_tree.specs.Tree.{Branch, row}
use Rattle.crp_file_tests.proofs.cert.writing.dead_end.Goals as goal

pub from_row-requires : goal.from_row-requires
from_row-requires g c = (Branch (row []), c.in_ok-push.ensures.symbols ∙ ap (λ l. l ++ symbol.Branch 0 ∷ []) c.new-row.ensures)
