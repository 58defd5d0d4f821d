use Rattle.std.proofs.Common.{◌≡◌, List, [], ◌∷◌, ◌++◌, None, refl, sym, ap, ◌∙◌, subst}
use Rattle.crp_plan.specs.Bay.{cap}
use Rattle.crp_row.specs.Symbol.{Symbol}
use Rattle.crp_row.specs.Symbol as symbol
use Rattle.crp_tree.specs.Tree.{Tree, CutL}
use Rattle.crp_tree.specs.Symbols.{symbols}
use Rattle.crp_tree.specs.Trees.{least_value}
use Rattle.crp_tree.specs.Claims.{nodes_in}
use Rattle.crp_tree.specs.Parts.{ProblemPart, claimed}
use Rattle.crp_tree.proofs.Parsed.{alone}
use Rattle.crp_cert.specs.Writing.{CanBeSpelled}
use Rattle.crp_cert.proofs.Worked.{ShapeAndFloor, four, four_show, three_rows, part_at_root, spelled_at_root}
use Rattle.crp_file_tests.proofs.cert.claims.cut_ahead.Goals as goal

-- the tree of a row to which one cut was added
one_cut : (tree : Tree) (empty list : List Symbol) → empty ≡ [] → list ≡ empty ++ symbol.CutL ∷ [] → list ≡ symbols tree → CutL ≡ tree
one_cut tree empty list none made is = sym (alone CutL list (made ∙ ap (λ l. l ++ symbol.CutL ∷ []) none)).is ∙ (alone tree list is).is

pub from_row-tree-requires : goal.from_row-tree-requires
from_row-tree-requires g c = (CutL, c.in_ok-push.ensures.symbols ∙ ap (λ l. l ++ symbol.CutL ∷ []) c.new-row.ensures)

pub new-requires-clause-part : goal.new-requires-clause-part
new-requires-clause-part g c =
    let is : c.four-problem.result ≡ four = three_rows 3 4 c.four-problem.result _ _ _ _ _ _ c.four-problem.ensures.value c.in_ok-vec.ensures.items c.in_ok-vec-2.ensures.items c.in_ok-vec-3.ensures.items in
    let same : CutL ≡ c.from_row-tree.result = one_cut c.from_row-tree.result _ _ c.new-row.ensures c.in_ok-push.ensures.symbols c.from_row-tree.ensures in
    let shows = subst (λ t. ShapeAndFloor 2 t c.four-problem.result) same (four_show c.four-problem.result is) in
    part_at_root c.four-problem.result c.root.result c.from_row-tree.result c.root.ensures c.four-problem.ensures.problem shows.0

pub new-requires-clause-floor : goal.new-requires-clause-floor
new-requires-clause-floor g c =
    let is : c.four-problem.result ≡ four = three_rows 3 4 c.four-problem.result _ _ _ _ _ _ c.four-problem.ensures.value c.in_ok-vec.ensures.items c.in_ok-vec-2.ensures.items c.in_ok-vec-3.ensures.items in
    let same : CutL ≡ c.from_row-tree.result = one_cut c.from_row-tree.result _ _ c.new-row.ensures c.in_ok-push.ensures.symbols c.from_row-tree.ensures in
    let shows = subst (λ t. ShapeAndFloor 2 t c.four-problem.result) same (four_show c.four-problem.result is) in
    subst (λ name. 2 ≡ least_value (cap c.four-problem.result) (nodes_in c.four-problem.result (record { name = name; tree = c.from_row-tree.result }))) (sym c.root.ensures) shows.1

pub returns : goal.returns
returns g c =
    let is : c.four-problem.result ≡ four = three_rows 3 4 c.four-problem.result _ _ _ _ _ _ c.four-problem.ensures.value c.in_ok-vec.ensures.items c.in_ok-vec-2.ensures.items c.in_ok-vec-3.ensures.items in
    let same : c.from_row-tree.result ≡ CutL = sym (one_cut c.from_row-tree.result _ _ c.new-row.ensures c.in_ok-push.ensures.symbols c.from_row-tree.ensures) in
    let cert =
    c.in_ok-cert.ensures.value ∙ ap (λ (x : ProblemPart). record { parts = x ∷ []; lower = x.floor }) (c.in_ok-part.ensures.value ∙ ap (λ name. record { problem = c.four-problem.result; name = name; tree = c.from_row-tree.result; floor = 2 }) c.root.ensures
    ∙ ap (λ tree. record { problem = c.four-problem.result; name = []; tree = tree; floor = 2 }) same) in
    subst (λ l. CanBeSpelled (claimed c.four-problem.result l None)) (sym cert)
    (spelled_at_root c.four-problem.result CutL 2 c.four-problem.ensures.problem (four_show c.four-problem.result is) refl)
