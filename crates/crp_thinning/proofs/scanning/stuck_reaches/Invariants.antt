use Rattle.std.proofs.Common.{◌≡◌, length}
use Rattle.crp_bounds.proofs.Remaining.{Remains}
use Rattle.crp_thinning.proofs.Scans.{AreLeasts}
use Rattle.crp_thinning.proofs.scanning.stuck_reaches.Given as goal

abbrev pub invariant-loop-rank : goal.invariant-loop-rank
invariant-loop-rank l = record {
  remains : Remains l.track.place.ordered l.track.place.next l.track.place.heights l.track.place.stacks l.rank l.left l.most l.again l.still;
  leasts : AreLeasts l.track.place.ordered l.track.place.stacks l.left l.leasts;
  long : length l.leasts ≡ 16;
}
