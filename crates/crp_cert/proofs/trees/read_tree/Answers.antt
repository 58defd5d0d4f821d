use Rattle.std.proofs.Common.{◌≡◌, ◌∙◌, sym, subst, ap, ◌++◌}
use Rattle.crp_tree.specs.Tree.{Tree}
use Rattle.crp_tree.specs.Symbols.{symbols, tree_of, tree_back}
use Rattle.crp_tree.specs.Trees.{Fits}
use Rattle.crp_cert.specs.Script.{symbols_of}
use Rattle.crp_cert.proofs.trees.read_tree.Goals as goal

pub returns-clause-found : goal.returns-clause-found
returns-clause-found c =
    let whole = rw c.in-Some.is at c.in_ok-rest.ensures in
    let tree : Tree = whole.found.0 in
    let list_is : c.read_symbols.new.row.symbols ≡ symbols tree = whole.found.1 ∙ ap (λ l. l ++ symbols tree) c.new-row.ensures in
    let same : tree ≡ c.from_row.result = sym (tree_back tree) ∙ ap (λ l. tree_of l) (sym list_is ∙ c.from_row.ensures) ∙ tree_back c.from_row.result in
    subst (λ t. Fits c.args.place.now.place t × (c.args.bytes.now ≡ symbols_of t ++ c.in-Some.rest.now)) same (whole.found.2, whole.found.3)
