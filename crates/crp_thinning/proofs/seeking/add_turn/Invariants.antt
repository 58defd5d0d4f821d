use Rattle.std.proofs.Common.{◌≤◌, length}
use Rattle.crp_thinning.proofs.seeking.add_turn.Given as goal

abbrev pub invariant-loop-count : goal.invariant-loop-count
invariant-loop-count l = l.count ≤ length l.stack

abbrev pub decreases-loop-count : goal.decreases-loop-count
decreases-loop-count l = l.count
