use Rattle.std.proofs.Common.{List, ℕ, ◌≤◌, ◌-◌, ◌++◌, length, take}
use Rattle.crp_checker.specs.Watches.{IsUnended}
use Rattle.crp_checker.proofs.watch.cut.Given as goal

abbrev pub decreases-loop-taken : goal.decreases-loop-taken
decreases-loop-taken l = length l.bytes - l.taken

abbrev pub invariant-loop-taken : goal.invariant-loop-taken
invariant-loop-taken l = record {
  within : l.taken ≤ length l.bytes;
  on : (text : List ℕ) → IsUnended text l.fn.watch → IsUnended (text ++ take l.taken l.bytes) l.watch;
}
