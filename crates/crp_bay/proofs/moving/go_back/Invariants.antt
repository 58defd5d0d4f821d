use Rattle.std.proofs.Common.{◌≡◌, ◌-◌, ◌≤◌}
use Rattle.crp_bay.specs.Back.{place_of, all_back}
use Rattle.crp_bay.proofs.moving.go_back.Given as goal

abbrev pub invariant-loop-next : goal.invariant-loop-next
invariant-loop-next l = record {
  low : l.until ≤ l.next;
  high : l.next ≤ l.fn.last;
  back : place_of l.fn.heights l.fn.ordered l.next l.stacks ≡ all_back l.row_of (l.fn.last - l.next) (place_of l.fn.heights l.fn.ordered l.fn.last l.initial.stacks);
}

abbrev pub decreases-loop-next : goal.decreases-loop-next
decreases-loop-next l = l.next
