use Rattle.std.proofs.Common.{◌≡◌, true}
use Rattle.crp_solve.specs.Deepening.{distance}
use Rattle.crp_solve.proofs.Rising.{IsRising}
use Rattle.crp_solve.proofs.solver.found_together.Given as goal

abbrev pub invariant-loop-left : goal.invariant-loop-left
invariant-loop-left g l = record {
  rising : IsRising l.problem l.settings l.known;
  stops : l.known.stopped ≡ true → g.G.Gate.may_stop l.outside.gate.now;
}

abbrev pub decreases-loop-left : goal.decreases-loop-left
decreases-loop-left g l = distance l.problem l.settings.budget l.known
