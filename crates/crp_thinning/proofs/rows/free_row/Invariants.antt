use Rattle.std.proofs.Common.{◌≡◌}
use Rattle.crp_thinned.specs.Thinned.{free_row}
use Rattle.crp_thinning.proofs.GoodRows.{free_from}
use Rattle.crp_thinning.proofs.rows.free_row.Given as goal

abbrev pub invariant-loop-row : goal.invariant-loop-row
invariant-loop-row l = free_row l.track.place ≡ free_from l.track.place l.row
