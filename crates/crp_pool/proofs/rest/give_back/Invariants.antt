use Rattle.std.proofs.Common.{◌≡◌, ◌<◌, ◌+◌, ℕ, All, map, take, length, vec_len}
use Rattle.crp_pool.specs.declared.hand.Hand.{Hand}
use Rattle.crp_pool.specs.Weigh.{weigh}
use Rattle.crp_pool.specs.Deques.{own_deque, own_hand, way_hand, shape, guest, AddsUp}
use Rattle.crp_pool.proofs.rest.give_back.Given as goal

abbrev pub invariant-loop-link : goal.invariant-loop-link
invariant-loop-link l = record {
  shares : All (λ o. 0 < o.hand.shares) l.owners.items;
  ways : map shape l.links.items ≡ take (length l.links.items) (map guest (map own_deque l.owners.items));
  deques : map own_deque l.owners.items ≡ map own_deque l.initial.owners.items;
  sums : (f : Hand → ℕ) → AddsUp f → weigh f (map own_hand l.owners.items) + weigh f (map way_hand l.links.items) ≡ weigh f (map own_hand l.initial.owners.items) + weigh f (map way_hand l.initial.links.items);
}

abbrev pub decreases-loop-link : goal.decreases-loop-link
decreases-loop-link l = vec_len l.links
