-- Those in the rows so far.
use Rattle.std.proofs.Common.{◌≡◌, ◌≤◌, ◌*◌, ◌^◌, ◌-◌, take}
use Rattle.crp_loading.specs.Summary.{called_in}
use Rattle.crp_loading.proofs.summary.called_in.Given as goal

abbrev pub invariant-loop-row : goal.invariant-loop-row
invariant-loop-row l = record {
  value : l.count ≡ called_in l.ship.sequence (take l.row-index l.rows);
  low : l.count ≤ l.row-index * (2 ^ 64 - 1);
}
