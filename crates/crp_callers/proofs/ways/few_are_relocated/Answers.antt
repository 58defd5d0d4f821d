use Rattle.std.proofs.Common.{ℕ, ◌+◌, ◌-◌, ◌*◌, ◌≤◌, subst, arith}
use Rattle.crp_plan.specs.Bay.{relocations}
use Rattle.crp_callers.proofs.ways.few_are_relocated.Goals as goal

pub returns-clause-one_tier : goal.returns-clause-one_tier
returns-clause-one_tier c = λ s t moves sound one runs.
    let few : relocations moves ≤ (s.ordered + 1 - s.next) * (1 - 1) =
    subst (λ (n : ℕ). relocations moves ≤ (s.ordered + 1 - s.next) * (n - 1)) one (c.few_relocations.ensures.run s moves t sound runs) in
    omega (arith, few)

pub returns-clause-below_cap : goal.returns-clause-below_cap
returns-clause-below_cap c = λ p moves is plan as_many. absurd (omega (arith, c.few_relocations.ensures.plan p moves is plan, as_many))
