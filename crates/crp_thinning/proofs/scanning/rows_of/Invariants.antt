use Rattle.std.proofs.Common.{◌≡◌, length}
use Rattle.crp_bay.specs.Located.{AreRowsOf}
use Rattle.crp_thinning.proofs.scanning.rows_of.Given as goal

abbrev pub invariant-loop-row : goal.invariant-loop-row
invariant-loop-row l = record { marked : AreRowsOf l.row l.stacks l.row_of; long : length l.row_of ≡ 256 }
