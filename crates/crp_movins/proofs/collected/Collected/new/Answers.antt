use Rattle.std.proofs.Common.{refl}
use Rattle.crp_movins.proofs.AcceptedSteps.{AreLoadOrders-none}
use Rattle.crp_movins.proofs.collected.Collected.new.Goals as goal

pub invariant_of-result : goal.invariant_of-result
invariant_of-result c = record {
  accepted = rw c.new.ensures.items AreLoadOrders-none;
  containers = λ name. rw (c.new-2.ensures.empty, c.new.ensures.items) refl;
}
