use Rattle.std.proofs.Common.{◌≡◌, [], ◌∷◌, ◌++◌, refl, sym, ap, ◌∙◌, subst, List}
use Rattle.crp_row.specs.Symbol.{Symbol}
use Rattle.crp_row.specs.Symbol as symbol
use Rattle.crp_tree.specs.Tree.{Tree, Branch, CutB, row}
use Rattle.crp_tree.proofs.Parsed.{alone}
use Rattle.crp_cert.proofs.Worked.{ShapeAndFloor, four, four_branch, three_rows}
use Rattle.crp_file_tests.proofs.cert.writing.branched_twice.Goals as goal

-- what a row holds to which five symbols were added, one after the other
five : (a b c d e : Symbol) (l0 l1 l2 l3 l4 l5 : List Symbol) → l0 ≡ [] → l1 ≡ l0 ++ a ∷ [] → l2 ≡ l1 ++ b ∷ [] → l3 ≡ l2 ++ c ∷ [] → l4 ≡ l3 ++ d ∷ [] → l5 ≡ l4 ++ e ∷ [] → l5 ≡ a ∷ b ∷ c ∷ d ∷ e ∷ []
five a b c d e l0 l1 l2 l3 l4 l5 e0 e1 e2 e3 e4 e5 =
    e5 ∙ ap (λ l. l ++ e ∷ []) (e4 ∙ ap (λ l. l ++ d ∷ []) (e3 ∙ ap (λ l. l ++ c ∷ []) (e2 ∙ ap (λ l. l ++ b ∷ []) (e1 ∙ ap (λ l. l ++ a ∷ []) e0))))

pub from_row-requires : goal.from_row-requires
from_row-requires g c = (
  Branch (row (Branch (row (CutB ∷ CutB ∷ [])) ∷ CutB ∷ [])),
  five (symbol.Branch 2) (symbol.Branch 2) symbol.CutB symbol.CutB symbol.CutB _ _ _ _ _ _ c.new-row.ensures c.in_ok-push.ensures.symbols c.in_ok-push-2.ensures.symbols c.in_ok-push-3.ensures.symbols c.in_ok-push-4.ensures.symbols c.in_ok-push-5.ensures.symbols,
)

pub whole-requires : goal.whole-requires
whole-requires g c =
    let is : c.problem_of-problem.result ≡ four = three_rows 3 4 c.problem_of-problem.result _ _ _ _ _ _ c.problem_of-problem.ensures.value c.in_ok-vec.ensures.items c.in_ok-vec-2.ensures.items c.in_ok-vec-3.ensures.items in
    let inner : List Tree = CutB ∷ CutB ∷ [] in
    let trees : List Tree = Branch (row inner) ∷ CutB ∷ [] in
    let made = five (symbol.Branch 2) (symbol.Branch 2) symbol.CutB symbol.CutB symbol.CutB _ _ _ _ _ _ c.new-row.ensures c.in_ok-push.ensures.symbols c.in_ok-push-2.ensures.symbols c.in_ok-push-3.ensures.symbols c.in_ok-push-4.ensures.symbols c.in_ok-push-5.ensures.symbols in
    let same : Branch (row trees) ≡ c.from_row.result = sym (alone (Branch (row trees)) _ made).is ∙ (alone c.from_row.result _ c.from_row.ensures).is in
    let shows = subst (λ t. ShapeAndFloor 2 t c.problem_of-problem.result) same (four_branch c.problem_of-problem.result trees inner is refl refl) in
    record { problem = c.problem_of-problem.ensures.problem; shape = shows.0; floor = shows.1 }
