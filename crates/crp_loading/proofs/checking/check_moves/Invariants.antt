-- The takes so far have no fault.
use Rattle.crp_loading.proofs.CheckSteps.{FitSoFar}
use Rattle.crp_loading.proofs.checking.check_moves.Given as goal

abbrev pub invariant-loop-stated : goal.invariant-loop-stated
invariant-loop-stated l = FitSoFar l.ship.sequence l.moves l.stated-index l.last
