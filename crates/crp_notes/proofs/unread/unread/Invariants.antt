-- What the segments so far leave in force, and the orders that are not read.
use Rattle.std.proofs.Common.{◌≡◌, ◌≤◌, ◌+◌, map, filter}
use Rattle.crp_notes.specs.Unread.{orders_before, is_unread}
use Rattle.crp_notes.specs.Messages.{IsStanding}
use Rattle.crp_notes.specs.Orders.{ordered}
use Rattle.crp_notes.proofs.unread.unread.Given as goal

abbrev pub invariant-loop-i : goal.invariant-loop-i
invariant-loop-i l = record {
  few : l.standing.messages ≤ l.i;
  stands : IsStanding l.segments l.loading (l.i + 1) l.standing;
  unread : map ordered l.orders.items ≡ filter (is_unread l.loading) (orders_before l.segments l.loading (l.i + 1));
}
