use Rattle.std.proofs.Common.{◌≡◌, ◌<◌, ◌≤◌, ℕ, map, take, get_or}
use Rattle.crp_pool.specs.Deques.{Own, own_deque, fresh_way, GivesShare}
use Rattle.crp_pool.proofs.pool.link_row.Given as goal

abbrev pub invariant-loop-i : goal.invariant-loop-i
invariant-loop-i l = record {
  deques : map own_deque l.owners.items ≡ map own_deque l.initial.owners.items;
  given : (d : Own) (k : ℕ) → k < l.i → GivesShare (get_or l.initial.owners.items k d) (get_or l.owners.items k d);
  others : (d : Own) (k : ℕ) → l.i ≤ k → get_or l.owners.items k d ≡ get_or l.initial.owners.items k d;
  row : l.links.items ≡ map fresh_way (take l.i (map own_deque l.initial.owners.items));
}
