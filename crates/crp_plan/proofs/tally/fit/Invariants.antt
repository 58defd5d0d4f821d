use Rattle.std.proofs.Common.{ℕ, ◌<◌, ◌≤◌, [], length, get_or}
use Rattle.crp_plan.specs.Faults.{stacks_of}
use Rattle.crp_plan.proofs.tally.fit.Given as goal

abbrev pub invariant-loop-i : goal.invariant-loop-i
invariant-loop-i l = (k : ℕ) → k < l.i → length (get_or (stacks_of l.stacks) k []) ≤ get_or l.heights k 0
