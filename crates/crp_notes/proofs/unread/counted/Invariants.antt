-- What is kept so far.
use Rattle.std.proofs.Common.{map, take}
use Rattle.crp_notes.specs.Repeated.{each_once}
use Rattle.crp_notes.specs.Unread.{is_same}
use Rattle.crp_notes.specs.Orders.{ordered, AreCounted}
use Rattle.crp_notes.proofs.unread.counted.Given as goal

abbrev pub invariant-loop-order : goal.invariant-loop-order
invariant-loop-order l = AreCounted (map ordered l.orders) (each_once is_same (map ordered (take l.order-index l.orders))) l.kept.keys l.found.items
