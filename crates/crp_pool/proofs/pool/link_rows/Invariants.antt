use Rattle.std.proofs.Common.{◌≡◌, ◌-◌, ◌+◌, ℕ, All, map, length}
use Rattle.crp_pool.specs.Hand.{all_deque_shares}
use Rattle.crp_pool.specs.Deques.{own_deque, fresh_way, IsFresh}
use Rattle.crp_pool.proofs.pool.link_rows.Given as goal

abbrev pub invariant-loop-row : goal.invariant-loop-row
invariant-loop-row l = record {
  count : length l.rows.items ≡ l._row;
  rows : All (λ r. r.items ≡ map fresh_way (map own_deque l.initial.owners.items)) l.rows.items;
  deques : map own_deque l.owners.items ≡ map own_deque l.initial.owners.items;
  shares : All (λ o. o.hand.shares + l._row ≡ all_deque_shares) l.owners.items;
  fresh : (capacity : ℕ) → All (IsFresh all_deque_shares capacity) l.initial.owners.items → All (IsFresh (all_deque_shares - l._row) capacity) l.owners.items;
}
