use Rattle.crp_order.proofs.Once.{turned}
use Rattle.crp_order.proofs.PlaceSteps.{place-more}
use Rattle.crp_order.proofs.bays.place_stack.Goals as goal

pub loop-container-preserved : goal.loop-container-preserved
loop-container-preserved c =
    place-more c.args.bays.now.entries c.loop-container.bays.entries c.insert.new.self.entries c.args.stack.now c.loop-container.container-index c.container-item.result c.args.bay
    c.loop-container.invariant c.loop-container-test.true c.container-item.is
    (λ q. rw (← c.bytes.ensures) (c.in_ok-insert.ensures.updates.0 q))
    (λ x. turned c.container-item.result x)
