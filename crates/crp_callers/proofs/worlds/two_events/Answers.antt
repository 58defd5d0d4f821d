use Rattle.std.proofs.Common.{◌∙◌, sym, ap, subst}
use Rattle.crp_plan.specs.Bay.{IsProblem}
use Rattle.crp_steps.specs.Worlds.{World, Rules}
use Rattle.crp_steps.specs.Events.{Leads}
use Rattle.crp_callers.proofs.worlds.two_events.Goals as goal

pub returns : goal.returns
returns c = λ one other w next last also again is first second third fourth.
    let same = c.one_next_world.ensures.event one w next also is first third in
    let stays = ap (λ (r : Rules). r.problem) (c.one_next_world.ensures.rules one w next first) in
    let still = subst IsProblem (sym stays) is in (
      c.one_next_world.ensures.event other next last again still second (subst (λ (x : World). Leads other x again) (sym same) fourth),
      ap (λ (r : Rules). r.problem) (c.one_next_world.ensures.rules other next last second) ∙ stays,
    )
