-- How many stand in the rows so far.
use Rattle.std.proofs.Common.{◌≡◌, ◌≤◌, ◌*◌, ◌^◌, ◌-◌, take}
use Rattle.crp_follow.specs.Table.{standing}
use Rattle.crp_follow.proofs.summary.standing.Given as goal

abbrev pub invariant-loop-row : goal.invariant-loop-row
invariant-loop-row l = record {
  value : l.count ≡ standing (take l.row-index l.rows);
  low : l.count ≤ l.row-index * (2 ^ 64 - 1);
}
