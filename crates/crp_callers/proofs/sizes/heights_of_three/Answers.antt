use Rattle.std.proofs.Common.{[], ◌∷◌, refl, arith}
use Rattle.std.proofs.lemmas.List.Elements.{All-from_recursion}
use Rattle.crp_plan.specs.Faults.{HasTiers}
use Rattle.crp_callers.proofs.sizes.heights_of_three.Goals as goal

pub unreachable-requires : goal.unreachable-requires
unreachable-requires c =
    c.in_default.ensures.none (3 ∷ 1 ∷ 3 ∷ []) (((omega arith, omega arith), All-from_recursion HasTiers (3 ∷ 1 ∷ 3 ∷ []) ((omega arith, omega arith), ((omega arith, omega arith), ((omega arith, omega arith), tt)))), refl)
