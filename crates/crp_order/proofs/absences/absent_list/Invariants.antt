-- The header, and the records of the orders so far.
use Rattle.std.proofs.Common.{◌≡◌, take}
use Rattle.crp_order.specs.Absences.{absent_text}
use Rattle.crp_order.proofs.absences.absent_list.Given as goal

abbrev pub invariant-loop-i : goal.invariant-loop-i
invariant-loop-i l = l.list ≡ absent_text l.yard (take l.i l.orders)
