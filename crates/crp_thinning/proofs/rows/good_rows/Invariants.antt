use Rattle.std.proofs.Common.{◌≡◌, ◌-◌, ◌≤◌, ◌&&◌, length, filter}
use Rattle.crp_bay.specs.Positions.{can_shift, counted}
use Rattle.crp_thinned.specs.Thinned.{is_well_placed}
use Rattle.crp_thinning.proofs.rows.good_rows.Given as goal

abbrev pub invariant-loop-row : goal.invariant-loop-row
invariant-loop-row l = record {
  value : l.rows.items ≡ filter (λ row. can_shift l.track.place row && is_well_placed l.track.place row) (counted 1 (l.row - 1));
  few : length l.rows.items ≤ l.row - 1;
}
