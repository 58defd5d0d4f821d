use Rattle.crp_yard.specs.Written.{text_written_by}
use Rattle.crp_yard.proofs.TextSteps.{container-more}
use Rattle.crp_yard.proofs.writing.push_stack.Goals as goal

pub loop-i-preserved : goal.loop-i-preserved
loop-i-preserved c =
    let pushed = c.in_ok-push_container.ensures in
    record {
      between = pushed.between;
      written = container-more c.args.bay.now (text_written_by c.args.writer.now) (text_written_by c.loop-i.writer) (text_written_by c.push_container.new.writer) c.args.row c.args.stack.now c.loop-i.i c.index-stack-i.result c.loop-i-test.true c.index-stack-i.is c.loop-i.invariant.written pushed.written;
    }
