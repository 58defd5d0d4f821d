use Rattle.std.proofs.Common.{◌≤◌, ◌-◌, length, take}
use Rattle.crp_checker.specs.Pending.{rows_behind}
use Rattle.crp_checker.specs.Passed.{ArePassed}
use Rattle.crp_checker.proofs.passing.pass.Given as goal

abbrev pub decreases-loop-next : goal.decreases-loop-next
decreases-loop-next l = l.rows - l.next

abbrev pub invariant-loop-next : goal.invariant-loop-next
invariant-loop-next l = record {
  within : l.taken ≤ length l.piece;
  passed : ArePassed l.least l.place.place (rows_behind l.row l.place.place) (rows_behind l.next l.place.place) (take l.fn.taken l.piece) (take l.taken l.piece);
}
