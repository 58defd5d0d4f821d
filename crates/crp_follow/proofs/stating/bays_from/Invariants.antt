-- The bays so far, and what is not read behind them.
use Rattle.std.proofs.Common.{◌≡◌, ◌≢◌, ◌+◌, ◌≤◌, ◌++◌, [], length, map}
use Rattle.std.specs.List.{AllByRecursion, flat_map}
use Rattle.crp_follow.specs.Stated.{bay_lines, IsStatable}
use Rattle.crp_follow.specs.TextFaults.{Begins, IsMoveLine}
use Rattle.crp_follow.specs.Views.{bay_stated, unread_lines}
use Rattle.crp_follow.proofs.stating.bays_from.Given as goal

abbrev pub invariant-loop-bays : goal.invariant-loop-bays
invariant-loop-bays l = record {
  statable : AllByRecursion IsStatable (map bay_stated l.bays.items);
  lines : unread_lines l.fn.unread ≡ flat_map bay_lines (map bay_stated l.bays.items) ++ unread_lines l.rest;
  no_move : map bay_stated l.bays.items ≢ [] → ¬ Begins IsMoveLine (unread_lines l.rest);
  room : l.rest.first + length l.rest.bytes.now ≤ l.fn.unread.first + length l.fn.unread.bytes.now;
}

abbrev pub decreases-loop-bays : goal.decreases-loop-bays
decreases-loop-bays l = length l.rest.bytes.now
