-- The names that were copied.
use Rattle.std.proofs.Common.{◌≡◌, take}
use Rattle.crp_follow.proofs.row.copied.Given as goal

abbrev pub invariant-loop-container : goal.invariant-loop-container
invariant-loop-container l = l.copy.items ≡ take l.container-index l.containers
