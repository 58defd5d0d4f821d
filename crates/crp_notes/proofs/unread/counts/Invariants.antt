-- How many there are so far of each.
use Rattle.std.proofs.Common.{take}
use Rattle.crp_notes.specs.Orders.{HasCounts}
use Rattle.crp_notes.proofs.unread.counts.Given as goal

abbrev pub invariant-loop-order : goal.invariant-loop-order
invariant-loop-order l = HasCounts l.counts.entries (take l.order-index l.orders)
