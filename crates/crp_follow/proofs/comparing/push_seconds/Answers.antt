use Rattle.std.proofs.Common.{map}
use Rattle.crp_follow.specs.Views.{bay_followed}
use Rattle.crp_follow.proofs.ComparingSteps.{second_more}
use Rattle.crp_follow.proofs.comparing.push_seconds.Goals as goal

pub loop-bay-preserved : goal.loop-bay-preserved
loop-bay-preserved c =
    second_more (map bay_followed c.args.firsts.now) c.args.table c.args.seconds.now c.loop-bay.bay-index c.bay-item.result c.loop-bay.longer c.in_ok-longer.longer c.loop-bay-test.true c.bay-item.is
    c.loop-bay.invariant c.in_ok-longer.ensures
