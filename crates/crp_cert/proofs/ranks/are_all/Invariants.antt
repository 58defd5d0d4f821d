use Rattle.std.proofs.Common.{ℕ, ◌≤◌, ◌<◌}
use Rattle.crp_plan.specs.Rows.{occurrences}
use Rattle.crp_plan.specs.Faults.{stacks_of}
use Rattle.crp_cert.proofs.ranks.are_all.Given as goal

abbrev pub invariant-loop-rank : goal.invariant-loop-rank
invariant-loop-rank l = (x : ℕ) → 1 ≤ x → x < l.rank → 0 < occurrences x (stacks_of l.stacks)
