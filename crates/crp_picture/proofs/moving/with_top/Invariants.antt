-- The names so far are there.
use Rattle.std.proofs.Common.{◌≡◌, take}
use Rattle.crp_picture.proofs.moving.with_top.Given as goal

abbrev pub invariant-loop-beneath : goal.invariant-loop-beneath
invariant-loop-beneath l = l.higher.items ≡ take l.beneath-index l.stack
