use Rattle.std.proofs.Common.{◌≡◌, ◌+◌, ◌-◌}
use Rattle.crp_bay.specs.Positions.{settled}
use Rattle.crp_bay.specs.Back.{place_of}
use Rattle.crp_bay.specs.Located.{IsLocated}
use Rattle.crp_bay.proofs.moving.settle.Given as goal

abbrev pub invariant-loop-next : goal.invariant-loop-next
invariant-loop-next l = record {
  located : IsLocated l.row_of (place_of l.fn.heights l.ordered l.next l.stacks);
  same : settled (place_of l.fn.heights l.ordered l.next l.stacks) ≡ settled (place_of l.fn.heights l.ordered l.fn.first l.initial.stacks);
}

abbrev pub decreases-loop-next : goal.decreases-loop-next
decreases-loop-next l = l.ordered + 1 - l.next
