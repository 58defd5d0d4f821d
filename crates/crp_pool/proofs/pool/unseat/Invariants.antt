use Rattle.std.proofs.Common.{◌≡◌, ◌<◌, List, All, map, length, vec_len, vec_capacity}
use Rattle.crp_pool.specs.Deques.{DequeId, own_deque, shape, guest, row_ways}
use Rattle.crp_pool.specs.Seats.{seat_deque, IsSplit}
use Rattle.crp_pool.proofs.pool.unseat.Given as goal

abbrev pub invariant-loop-seat : goal.invariant-loop-seat
invariant-loop-seat l = record {
  can : (goal.iterator-loop-seat).can_next l.seat-iterator;
  ends : (goal.iterator-loop-seat).is_finite l.seat-iterator;
  count : (vec_len l.owners ≡ length l.yielded) × (vec_len l.rows ≡ length l.yielded);
  room : (vec_capacity l.owners ≡ vec_capacity l.initial.owners) × (vec_capacity l.rows ≡ vec_capacity l.initial.rows);
  deques : map own_deque l.owners.items ≡ map seat_deque l.yielded;
  shares : All (λ o. 0 < o.hand.shares) l.owners.items;
  ways : (pool : List DequeId) → All (λ s. s.pool ≡ pool) l.yielded → All (λ r. map shape r.items ≡ map guest pool) l.rows.items;
  sums : IsSplit l.yielded l.owners.items (map row_ways l.rows.items);
}
