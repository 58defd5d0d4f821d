use Rattle.std.proofs.Common.{◌≡◌, ◌≤◌, length}
use Rattle.crp_thinning.specs.Steps.{trail_of}
use Rattle.crp_thinning.proofs.settling.go_back.Given as goal

abbrev pub invariant-loop : goal.invariant-loop
invariant-loop l = record {
  some : 1 ≤ length (trail_of l.track.steps l.track.place);
  trail : trail_of l.track.steps l.track.place ≡ trail_of l.fn.track.steps l.fn.track.place;
}

abbrev pub decreases-loop : goal.decreases-loop
decreases-loop l = length l.track.steps
