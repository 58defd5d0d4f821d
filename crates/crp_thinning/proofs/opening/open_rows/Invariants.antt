use Rattle.std.proofs.Common.{◌≡◌, ◌≤◌, ◌-◌, take, count_by}
use Rattle.std.specs.List.{list_any, zip}
use Rattle.crp_chains.specs.Chains.{is_open}
use Rattle.crp_thinning.proofs.opening.open_rows.Given as goal

abbrev pub invariant-loop-row : goal.invariant-loop-row
invariant-loop-row l = record {
  value : l.count ≡ count_by (λ row. list_any (is_open l.track.place.ordered row.0 row.1) l.chain) (take (l.row - 1) (zip l.track.place.heights l.track.place.stacks));
  few : l.count ≤ l.row - 1;
}
