use Rattle.std.proofs.Common.{◌≡◌, ◌≤◌, [], take}
use Rattle.crp_bounds.specs.Bounds.{blocked_in}
use Rattle.crp_thinning.proofs.counting.blocked_containers.Given as goal

abbrev pub invariant-loop-i : goal.invariant-loop-i
invariant-loop-i l = record { value : l.count ≡ blocked_in l.ordered [] (take l.i l.stack); few : l.count ≤ l.i }
