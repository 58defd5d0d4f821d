use Rattle.std.proofs.Common.{◌≡◌, ◌<◌, ◌+◌, ℕ, All, map}
use Rattle.crp_pool.specs.declared.hand.Hand.{Hand}
use Rattle.crp_pool.specs.Weigh.{weigh}
use Rattle.crp_pool.specs.Deques.{own_deque, own_hand, way_hand, row_ways, AddsUp}
use Rattle.crp_pool.proofs.pool.Pool.finish.Given as goal

abbrev pub invariant-loop-links : goal.invariant-loop-links
invariant-loop-links l = record {
  can : (goal.iterator-loop-links).can_next l.links-iterator;
  ends : (goal.iterator-loop-links).is_finite l.links-iterator;
  deques : map own_deque l.owners.items ≡ map own_deque l.initial.owners.items;
  shares : All (λ o. 0 < o.hand.shares) l.owners.items;
  sums : (f : Hand → ℕ) → AddsUp f → weigh f (map own_hand l.owners.items) ≡ weigh f (map own_hand l.initial.owners.items) + weigh (λ r. weigh f (map way_hand r)) (map row_ways l.yielded);
}
