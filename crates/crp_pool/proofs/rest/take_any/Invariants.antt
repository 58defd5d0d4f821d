use Rattle.std.proofs.Common.{◌≡◌, ◌<◌, ℕ, All, map, get_or}
use Rattle.crp_pool.specs.declared.hand.Hand.{Hand}
use Rattle.crp_pool.specs.Hand.{FoundEmpty}
use Rattle.crp_pool.specs.Deques.{own_kept, own_hand}
use Rattle.crp_pool.proofs.rest.take_any.Given as goal

abbrev pub invariant-loop-i : goal.invariant-loop-i
invariant-loop-i l = record {
  shares : All (λ o. 0 < o.hand.shares) l.owners.items;
  hands : map own_hand l.owners.items ≡ map own_hand l.initial.owners.items;
  kept : map own_kept l.owners.items ≡ map own_kept l.initial.owners.items;
  empty : (d : Hand) (k : ℕ) → k < l.i → FoundEmpty (get_or (map own_hand l.initial.owners.items) k d);
}
