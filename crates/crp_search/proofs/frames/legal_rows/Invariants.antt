use Rattle.std.proofs.Common.{◌≡◌, ◌≤◌, ◌<◌, ◌+◌, ◌-◌, ◌^◌, length, filter}
use Rattle.crp_bay.specs.Positions.{can_shift, counted}
use Rattle.crp_search.specs.Frames.{digits}
use Rattle.crp_search.proofs.frames.legal_rows.Given as goal

abbrev pub invariant-loop-row : goal.invariant-loop-row
invariant-loop-row l = record {
  within : l.row ≤ length l.position.place.heights;
  rows : digits 16 l.rows ≡ filter (can_shift l.position.place) (counted (l.row + 1) (length l.position.place.heights - l.row));
  count : l.count ≡ length (filter (can_shift l.position.place) (counted (l.row + 1) (length l.position.place.heights - l.row)));
  few : l.count + l.row ≤ length l.position.place.heights;
  low : l.rows < 16 ^ l.count;
}

abbrev pub decreases-loop-row : goal.decreases-loop-row
decreases-loop-row l = l.row
