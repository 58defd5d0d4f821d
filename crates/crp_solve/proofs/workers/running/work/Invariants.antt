use Rattle.crp_solve.specs.Groups.{SameWorkers, StopsBy}
use Rattle.crp_solve.proofs.workers.running.work.Given as goal

abbrev pub invariant-loop : goal.invariant-loop
invariant-loop g l = record {
  can : (goal.iterator-loop g).can_next l.iterator';
  ends : (goal.iterator-loop g).is_finite l.iterator';
  same : SameWorkers l.fn.group l.group;
  stops : StopsBy (g.G.Gate.may_stop l.outside.gate.now) l.fn.group → StopsBy (g.G.Gate.may_stop l.outside.gate.now) l.group;
}
