use Rattle.std.proofs.Common.{◌≡◌, All, length}
use Rattle.crp_pool.specs.Hand.{all_deque_shares}
use Rattle.crp_pool.specs.Deques.{IsFresh}
use Rattle.crp_pool.proofs.pool.open.Given as goal

abbrev pub invariant-loop-number : goal.invariant-loop-number
invariant-loop-number l = record { count : length l.owners.items ≡ l._number; fresh : All (IsFresh all_deque_shares l.capacity) l.owners.items }
