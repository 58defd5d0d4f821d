use Rattle.std.proofs.Common.{◌≡◌, subst, sym, arith}
use Rattle.std.proofs.lemmas.Grind.{common_steps}
use Rattle.std.proofs.lemmas.Bool.{false≢true}
use Rattle.crp_plan.specs.Bay.{IsProblem}
use Rattle.crp_plan.specs.Faults.{stacks_of, stated}
use Rattle.crp_callers.specs.SmallBays.{bay_of_six}
use Rattle.crp_callers.proofs.Statements.{six_is_problem}
use Rattle.crp_callers.proofs.problems.bay_of_six.Goals as goal

pub unreachable-requires : goal.unreachable-requires
unreachable-requires c =
    let rows : stacks_of c.deref.result.now ≡ bay_of_six.stacks = grind (arith, common_steps) in
    false≢true (c.in-Err.ensures.accepted.1 (subst (λ stacks. IsProblem (stated 3 6 stacks)) (sym rows) six_is_problem))
