use Rattle.std.proofs.Common.{◌≢◌, ◌≤◌, ◌-◌, length, take}
use Rattle.std.specs.List.{AllByRecursion}
use Rattle.crp_checker.proofs.watch.clear_len.Given as goal

abbrev pub decreases-loop-clear : goal.decreases-loop-clear
decreases-loop-clear l = length l.bytes - l.clear

abbrev pub invariant-loop-clear : goal.invariant-loop-clear
invariant-loop-clear l = record {
  within : l.clear ≤ length l.bytes;
  clear : AllByRecursion (λ b. b ≢ 10) (take l.clear l.bytes);
}
