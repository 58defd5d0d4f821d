use Rattle.std.proofs.Common.{◌∙◌}
use Rattle.crp_yard.proofs.NameSteps.{adds-none, adds-more}
use Rattle.crp_yard.proofs.names.add.Goals as goal

pub loop-container-init : goal.loop-container-init
loop-container-init c = adds-none c.args.names.now.keys

pub loop-container-preserved : goal.loop-container-preserved
loop-container-preserved c =
    adds-more c.args.names.now.keys c.loop-container.names.keys c.insert.new.self.keys c.args.stack.now c.loop-container.container-index c.in_ok-from_slice.field-0 c.container-item.result
    c.loop-container.invariant c.loop-container-test.true c.container-item.is (c.in_ok-from_slice.ensures.items ∙ c.bytes.ensures) c.in_ok-insert.ensures.keys
