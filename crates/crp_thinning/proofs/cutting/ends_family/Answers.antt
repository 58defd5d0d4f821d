use Rattle.std.proofs.Common.{◌-◌, ◌∙◌, [], refl, ap}
use Rattle.crp_plan.specs.Bay.{Position}
use Rattle.crp_thinning.proofs.Following.{family_closes}
use Rattle.crp_thinning.proofs.cutting.ends_family.Goals as goal

pub returns-in-Ended : goal.returns-in-Ended
returns-in-Ended c =
    let s : Position = c.args.place.now.place in
    let e = c.begin_family-reading.ensures in
    family_closes s c.args.need c.args.text.now c.begin_family-reading.result c.loop-i.reading c.loop-i.i
    (record { seen = e.seen; wanted = e.wanted ∙ c.saturating_sub.ensures ∙ ap (λ b. c.args.need - b) c.blocking.ensures.value; ranks = e.ranks; number = e.number })
    c.loop-i-test.true c.loop-i.invariant.back ((c.in-Ended.ensures.goes_on [] []).1 refl)
