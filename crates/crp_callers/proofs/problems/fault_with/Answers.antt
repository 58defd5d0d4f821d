use Rattle.std.proofs.Common.{refl, arith}
use Rattle.crp_callers.proofs.Statements.{as_many}
use Rattle.crp_callers.proofs.problems.fault_with.Goals as goal

pub returns-in-Ok-clause-rows : goal.returns-in-Ok-clause-rows
returns-in-Ok-clause-rows c = λ bad.
    let is = c.in-Ok.ensures.accepted.0 refl in
    let many = as_many _ _ is.stacks_fit in
    absurd (bad ((omega (arith, many), omega (arith, many)), many))
