use Rattle.crp_plan.specs.Bay.{start}
use Rattle.crp_callers.proofs.ways.two_moves_stay_sound.Goals as goal

pub returns : goal.returns
returns c = λ p one other s t is first second.
    c.stays_sound.ensures.keeps s other t (c.stays_sound.ensures.keeps (start p) one s (c.stays_sound.ensures.begins p is) first) second
