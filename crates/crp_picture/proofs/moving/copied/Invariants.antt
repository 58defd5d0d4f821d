-- The rows so far are there.
use Rattle.std.proofs.Common.{◌≡◌, take}
use Rattle.crp_picture.proofs.moving.copied.Given as goal

abbrev pub invariant-loop-row : goal.invariant-loop-row
invariant-loop-row l = l.copy.items ≡ take l.row-index l.rows
