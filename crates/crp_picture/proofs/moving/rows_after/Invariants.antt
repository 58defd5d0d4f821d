-- The moves so far are made.
use Rattle.std.proofs.Common.{◌≡◌, drop}
use Rattle.crp_follow.specs.Stated.{moves_of}
use Rattle.crp_picture.specs.Frames.{rows_after}
use Rattle.crp_picture.proofs.moving.rows_after.Given as goal

abbrev pub invariant-loop-stated : goal.invariant-loop-stated
invariant-loop-stated l = rows_after l.rows.items (moves_of (drop l.stated-index l.moves)) ≡ rows_after l.before (moves_of l.moves)
