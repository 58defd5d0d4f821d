use Rattle.crp_pool.specs.Seats.{SameSeat}
use Rattle.crp_search_tests.proofs.pool.threads.put_names.Given as goal

-- the seat is the same
abbrev pub invariant-loop-i : goal.invariant-loop-i
invariant-loop-i l = SameSeat l.fn.seat l.seat
