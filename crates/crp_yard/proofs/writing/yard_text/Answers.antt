use Rattle.crp_yard.proofs.TextSteps.{bay-more}
use Rattle.crp_yard.proofs.writing.yard_text.Goals as goal

pub loop-i-preserved : goal.loop-i-preserved
loop-i-preserved c = bay-more c.args.yard.now.bays c.loop-i.i (c.bay.result.0.now, c.bay.result.1.now) c.loop-i.list c.in_ok-list-2.list c.bay.ensures.value c.loop-i.invariant c.in_ok-list-2.ensures
