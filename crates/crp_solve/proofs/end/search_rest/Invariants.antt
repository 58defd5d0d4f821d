use Rattle.std.proofs.Common.{◌≡◌, ◌≤◌, true, false}
use Rattle.crp_solve.specs.Rests.{known_to, IsDoneUpTo}
use Rattle.crp_solve.proofs.end.search_rest.Given as goal

abbrev pub invariant-loop : goal.invariant-loop
invariant-loop g l = record {
  can : (goal.iterator-loop g).can_next l.iterator';
  ends : (goal.iterator-loop g).is_finite l.iterator';
  words : l.done.seat.of ≡ l.common.of;
  share : l.done.seat.view.share ≡ l.fn.done.seat.view.share;
  mine : l.done.seat.view.mine ≤ l.fn.done.seat.view.mine;
  enough : l.done.short ≡ false;
  timely : l.done.stopped ≡ true → l.common.of.key.timed ≡ true;
  stops : (l.fn.done.stopped ≡ true → g.G.Gate.may_stop l.outside.gate.now) → l.done.stopped ≡ true → g.G.Gate.may_stop l.outside.gate.now;
  done : IsDoneUpTo g.A.Aim.keeps l.common.of (known_to l.done) l.done.best l.done.parts.items l.rest.puts l.rest.takes;
}
