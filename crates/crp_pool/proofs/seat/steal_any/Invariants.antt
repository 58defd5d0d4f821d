use Rattle.std.proofs.Common.{◌≡◌, ◌<◌, All, map}
use Rattle.crp_pool.specs.Deques.{shape, way_hand}
use Rattle.crp_pool.proofs.seat.steal_any.Given as goal

abbrev pub invariant-loop-i : goal.invariant-loop-i
invariant-loop-i l = record {
  shares : All (λ w. 0 < w.hand.shares) l.links.items;
  shapes : map shape l.links.items ≡ map shape l.initial.links.items;
  hands : map way_hand l.links.items ≡ map way_hand l.initial.links.items;
}
