use Rattle.std.proofs.Common.{◌≡◌}
use Rattle.crp_solve.proofs.workers.desk.claim.Given as goal

abbrev pub invariant-loop : goal.invariant-loop
invariant-loop g l = record {
  can : (goal.iterator-loop g).can_next l.iterator';
  ends : (goal.iterator-loop g).is_finite l.iterator';
  same : l.seat ≡ l.fn.seat;
}
