use Rattle.std.proofs.Common.{◌≡◌, List, ℕ, ◌++◌, ◌∷◌, [], drop, sym, ap, ◌∙◌, subst}
use Rattle.std.proofs.lemmas.List.{take_rest}
use Rattle.crp_checker.specs.Openings.{IsOpening, IsPartOpening, part_word}
use Rattle.crp_checker.proofs.Growing.{part_opens, last_opens}
use Rattle.crp_checker.proofs.opening.open_by.Goals as goal

pub returns-then-begins_with-clause-opening : goal.returns-then-begins_with-clause-opening
returns-then-begins_with-clause-opening c =
    let old : List ℕ = c.args.begun.now.items in
    let new : List ℕ = c.push.new.self.items in
    let came : List ℕ = c.as_slice-begun.result.now in
    let begun = c.begins_with.ensures.0 c.if-begins_with.true in
    let added : came ≡ old ++ c.args.byte ∷ [] = c.as_slice-begun.ensures.value ∙ c.in_ok-push.ensures.items in
    let behind : came ≡ part_word ++ drop 5 came = begun.1 ∙ ap (λ l. part_word ++ l) (sym (ap (drop 5) begun.1)) in
    let opening = subst (λ l. IsPartOpening c.args.problem.now c.args.line l c.part_opening.result) (take_rest came 5) c.part_opening.ensures in
    subst (λ l. IsOpening c.args.problem.now c.args.count c.args.line old l c.part_opening.result) (sym added ∙ c.as_slice-begun.ensures.value)
    (part_opens c.args.problem.now c.args.count c.args.line old (drop 5 came) c.args.byte c.part_opening.result (sym added ∙ behind) opening)

pub returns-clause-opening : goal.returns-clause-opening
returns-clause-opening c =
    let came : List ℕ = c.as_slice-begun.result.now in
    subst (λ l. IsOpening c.args.problem.now c.args.count c.args.line c.args.begun.now.items l c.last_opening.result) c.as_slice-begun.ensures.value
    (last_opens c.args.problem.now c.args.count c.args.line c.args.begun.now.items came c.args.byte c.last_opening.result (c.as_slice-begun.ensures.value ∙ c.in_ok-push.ensures.items)
    (λ begun. let yes' = c.begins_with.ensures.1 begun in let not = c.if-begins_with.false in cc) c.last_opening.ensures)
