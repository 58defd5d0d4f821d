-- So many of the moves so far are made.
use Rattle.crp_loading.proofs.FirstTurns.{IsCountSoFar}
use Rattle.crp_loading.proofs.loaded.count_up_to.Given as goal

abbrev pub invariant-loop-i : goal.invariant-loop-i
invariant-loop-i l = IsCountSoFar l.ship.sequence l.loaded l.moves l.i l.count
