use Rattle.std.proofs.Common.{[], ◌∷◌, arith}
use Rattle.crp_callers.proofs.problems.tiers_before_ranks.Goals as goal

pub returns : goal.returns
returns c = λ fault is.
    c.one_fault.ensures.statement 0 1 ((1 ∷ []) ∷ (1 ∷ []) ∷ []) fault _ is ((omega arith, omega arith), λ tiers. absurd (omega (arith, tiers.0)))
