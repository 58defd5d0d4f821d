use Rattle.std.proofs.Common.{◌≡◌, ◌≤◌, ◌-◌, length}
use Rattle.crp_checker.specs.Pending.{pending}
use Rattle.crp_checker.proofs.paying.next_row.Given as goal

abbrev pub invariant-loop-path : goal.invariant-loop-path
invariant-loop-path l = record {
  above : l.above ≤ length l.path.items;
  same : pending (length l.path.items - l.above) l.path.items l.place ≡ pending (length l.initial.path.items - l.above) l.initial.path.items l.initial.place;
}

abbrev pub decreases-loop-path : goal.decreases-loop-path
decreases-loop-path l = length l.path.items
