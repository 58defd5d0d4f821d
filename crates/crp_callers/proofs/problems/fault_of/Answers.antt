use Rattle.std.proofs.Common.{refl}
use Rattle.crp_callers.proofs.Statements.{fit_tiers}
use Rattle.crp_callers.proofs.problems.fault_of.Goals as goal

pub returns-in-Ok-clause-too_high : goal.returns-in-Ok-clause-too_high
returns-in-Ok-clause-too_high c = λ rows tiers high. absurd (high (fit_tiers _ _ (c.in-Ok.ensures.accepted.0 refl).stacks_fit))
