use Rattle.std.proofs.Common.{◌≡◌, ◌+◌, ◌++◌}
use Rattle.crp_yard.specs.Text.{records_of_stack, text_of_records}
use Rattle.crp_yard.proofs.TextSteps.{stack-more}
use Rattle.crp_yard.proofs.writing.push_bay.Goals as goal

pub loop-i-preserved : goal.loop-i-preserved
loop-i-preserved c =
    let pushed : c.in_ok-longer.longer ≡ c.loop-i.longer ++ text_of_records (records_of_stack c.args.bay.now (c.loop-i.i + 1) 1 c.index-stacks-i.result) = rw (← c.list.ensures) c.in_ok-longer.ensures in
    stack-more c.args.bay.now c.args.list c.loop-i.longer c.in_ok-longer.longer c.args.stacks.now c.loop-i.i c.index-stacks-i.result c.loop-i-test.true c.index-stacks-i.is c.loop-i.invariant pushed
