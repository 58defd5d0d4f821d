use Rattle.crp_bounds.proofs.Remaining.{Remains}
use Rattle.crp_bounds.proofs.Clear.{IsCutOff}
use Rattle.crp_bounds.proofs.scanning.again_reaching.Given as goal

abbrev pub invariant-loop-rank : goal.invariant-loop-rank
invariant-loop-rank l = record {
  remains : Remains l.position.place.ordered l.position.place.next l.position.place.heights l.position.place.stacks l.rank l.left l.most l.again l.still;
  cut_off : IsCutOff l.position.place.ordered l.position.place.stacks l.rank l.left;
}
