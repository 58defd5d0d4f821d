use Rattle.std.proofs.Common.{◌≡◌, ◌<◌, false, length, ◌∙◌}
use Rattle.crp_movins.specs.declared.order.Order.{Order}
use Rattle.crp_movins.specs.Accepted.{max_orders, is_ordered}
use Rattle.crp_movins.proofs.AcceptedSteps.{AreLoadOrders-push, is_ordered-push}
use Rattle.crp_movins.proofs.collected.Collected.push.Goals as goal

pub invariant_of-self-2 : goal.invariant_of-self-2
invariant_of-self-2 c =
    let orders = c.self.inside.orders.items in
    let order : Order = record { container = c.from_vec.result; slot = c.args.slot } in
    let name : c.from_vec.result ≡ c.args.container.now = c.from_vec.ensures ∙ c.in_ok-bytes.ensures.items in
    let fresh : is_ordered orders c.from_vec.result ≡ false = rw (name, c.self.view_is) c.requires.fresh in
    let room : length orders < max_orders = rw c.self.view_is c.requires.room in
    record {
      accepted = rw (c.in_ok-push.ensures.items, c.in_ok-reserve.ensures.items) (AreLoadOrders-push orders order c.self.invariant.accepted fresh room);
      containers = λ q. rw (c.in_ok-push.ensures.items, c.in_ok-reserve.ensures.items) (c.in_ok-insert.ensures.updates.0 q ∙ rw (← name) (is_ordered-push orders order q.now _ (c.self.invariant.containers q)));
    }
