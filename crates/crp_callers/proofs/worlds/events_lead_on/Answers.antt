use Rattle.crp_steps.specs.Worlds.{begin}
use Rattle.crp_callers.proofs.worlds.events_lead_on.Goals as goal

pub returns : goal.returns
returns c = λ rules workers events are some.
    let (last, come) = c.one_next_world.ensures.some events (begin rules workers) are.is_problem in
    (last, come, c.every_plan_stays_covered.ensures.kept rules workers events last are some come)
