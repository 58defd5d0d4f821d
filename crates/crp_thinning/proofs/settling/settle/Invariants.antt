use Rattle.std.proofs.Common.{◌≡◌, ◌+◌, ◌-◌}
use Rattle.crp_thinned.specs.Thinned.{settled_over}
use Rattle.crp_thinning.specs.Steps.{trail_of}
use Rattle.crp_thinning.proofs.settling.settle.Given as goal

abbrev pub invariant-loop : goal.invariant-loop
invariant-loop l = record {
  place : settled_over l.track.place ≡ settled_over l.fn.track.place;
  trail : trail_of l.track.steps l.track.place ≡ trail_of l.fn.track.steps l.fn.track.place;
}

abbrev pub decreases-loop : goal.decreases-loop
decreases-loop l = l.track.place.ordered + 1 - l.track.place.next
