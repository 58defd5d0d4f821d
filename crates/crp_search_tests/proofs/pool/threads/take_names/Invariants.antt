use Rattle.crp_pool.specs.Seats.{SameSeat}
use Rattle.crp_search_tests.proofs.pool.threads.take_names.Given as goal

-- the seat is the same
abbrev pub invariant-loop : goal.invariant-loop
invariant-loop l = SameSeat l.fn.seat l.seat
