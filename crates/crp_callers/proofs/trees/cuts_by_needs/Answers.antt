use Rattle.std.proofs.Common.{◌≡◌, [], ◌∷◌, ap, arith}
use Rattle.crp_tree.specs.First.{need_at}
use Rattle.crp_callers.proofs.trees.cuts_by_needs.Goals as goal

pub returns-clause-before : goal.returns-clause-before
returns-clause-before c = λ cut same.
    let law = c.needs_as_numbers.ensures 2 (3 ∷ 1 ∷ []) cut in
    let need : need_at 2 (3 ∷ 1 ∷ []) cut.path ≡ 3 = ap (λ path. need_at 2 (3 ∷ 1 ∷ []) path) same in
    (λ meets. omega (arith, need, law.0 meets), λ enough. law.1 (omega (arith, need)))

pub returns-clause-after : goal.returns-clause-after
returns-clause-after c = λ cut same.
    let law = c.needs_as_numbers.ensures 2 (3 ∷ 1 ∷ []) cut in
    let need : need_at 2 (3 ∷ 1 ∷ []) cut.path ≡ 2 = ap (λ path. need_at 2 (3 ∷ 1 ∷ []) path) same in
    (λ meets. omega (arith, need, law.0 meets), λ enough. law.1 (omega (arith, need)))
