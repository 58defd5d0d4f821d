use Rattle.std.proofs.Common.{◌≡◌}
use Rattle.crp_pool.specs.Weigh.{SameNames}
use Rattle.crp_pool.specs.Seats.{SameSeat}
use Rattle.crp_solve.proofs.workers.wider.put_all.Given as goal

abbrev pub invariant-loop : goal.invariant-loop
invariant-loop g l = record {
  can : (goal.iterator-loop g).can_next l.iterator';
  ends : (goal.iterator-loop g).is_finite l.iterator';
  same : SameSeat l.fn.place l.place;
  takes : l.place.takes ≡ l.fn.place.takes;
  puts : l.rest.puts ≡ l.fn.rest.puts;
  moved : SameNames l.place.puts l.rest.takes;
}
