use Rattle.std.proofs.Common.{◌≡◌, ◌≤◌, ◌+◌, ◌-◌, length, take}
use Rattle.crp_thinning.proofs.starting.stacks_of.Given as goal

abbrev pub invariant-loop-row : goal.invariant-loop-row
invariant-loop-row l = record {
  lo : 1 ≤ l.row;
  hi : l.row ≤ length l.position.place.heights + 1;
  copied : l.stacks.items ≡ take (l.row - 1) l.position.place.stacks;
}
