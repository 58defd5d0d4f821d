use Rattle.crp_order.proofs.SequenceSteps.{sequenced-listed, sequenced-stowed}
use Rattle.crp_order.proofs.sequencing.sequence.Goals as goal
use Rattle.crp_order.proofs.sequencing.sequence.Goals.{in-Listed, in-Stowage+in_ok-orders-in-Stowage}

pub new-requires : goal.new-requires
new-requires c =
    elim c.match-mode.branch [
      | in-Listed w ↦
          rw (c.in_ok-list.ensures, w.orders-is) (sequenced-listed c.into_list-listed.result.items c.into_list-listed.ensures.accepted)
      | in-Stowage+in_ok-orders-in-Stowage w ↦
          rw (c.in_ok-list.ensures, w.orders-is) (sequenced-stowed c.into_list-listed.result.items w.in_ok-orders-in-Stowage.orders.items c.into_list-listed.ensures.accepted w.in_ok-orders-in-Stowage.ensures)
    ]
