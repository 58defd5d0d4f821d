use Rattle.std.proofs.Common.{◌∙◌, ◌++◌, map, ap}
use Rattle.crp_follow.specs.Compare.{fields_beside}
use Rattle.crp_follow.specs.Summary.{summary_fields}
use Rattle.crp_follow.specs.Table.{record_text}
use Rattle.crp_follow.specs.Views.{bay_followed}
use Rattle.crp_follow.proofs.ComparingSteps.{first_more}
use Rattle.crp_follow.proofs.comparing.push_firsts.Goals as goal

pub loop-bay-preserved : goal.loop-bay-preserved
loop-bay-preserved c =
    let b = bay_followed c.bay-item.result in
    let found = ap (λ o. c.loop-bay.longer ++ record_text (summary_fields b ++ fields_beside b o)) c.bay_named-second.ensures in
    first_more (map bay_followed c.args.seconds.now) c.args.table c.args.firsts.now c.loop-bay.bay-index c.bay-item.result c.loop-bay.longer c.in_ok-longer.longer c.loop-bay-test.true c.bay-item.is
    c.loop-bay.invariant (c.in_ok-longer.ensures ∙ found)
