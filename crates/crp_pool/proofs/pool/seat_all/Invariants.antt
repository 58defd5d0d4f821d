use Rattle.std.proofs.Common.{◌≡◌, ◌+◌, All, map, length}
use Rattle.crp_pool.specs.Deques.{own_deque, fresh_way}
use Rattle.crp_pool.specs.Seats.{seat_deque, seat_number, numbers, IsNewSeat}
use Rattle.crp_pool.proofs.pool.seat_all.Given as goal

abbrev pub invariant-loop-owner : goal.invariant-loop-owner
invariant-loop-owner l = record {
  can : (goal.iterator-loop-owner).can_next l.owner-iterator;
  ends : (goal.iterator-loop-owner).is_finite l.owner-iterator;
  count : length l.rows.items + length l.yielded ≡ length l.fn.owners.items;
  rows : All (λ r. r.items ≡ map fresh_way (map own_deque l.fn.owners.items)) l.rows.items;
  deques : map seat_deque l.seats.items ≡ map own_deque l.yielded;
  number : l.number ≡ length l.yielded;
  numbers : map seat_number l.seats.items ≡ numbers 0 (length l.yielded);
  new : All (IsNewSeat (map own_deque l.fn.owners.items) l.capacity) l.seats.items;
}
