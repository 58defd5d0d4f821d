use Rattle.std.proofs.Common.{◌≡◌, ◌+◌, ◌++◌, Bool, true, All, length, map, vec_capacity}
use Rattle.crp_solve.specs.Groups.{place_key, all_keys, shares, StopsBy, IsRoom, IsUnusedSeat}
use Rattle.crp_solve.proofs.workers.wider.seated.Given as goal

abbrev pub invariant-loop-place : goal.invariant-loop-place
invariant-loop-place g l = record {
  can : (goal.iterator-loop-place g).can_next l.place-iterator;
  ends : (goal.iterator-loop-place g).is_finite l.place-iterator;
  left_new : IsUnusedSeat l.shared l.left;
  words : All (λ g. g.of ≡ l.shared) l.groups.items;
  count : length l.groups.items ≡ length l.fn.groups.items + length l.yielded;
  share : l.left.view.share + shares l.groups.items ≡ l.fn.seat.view.share + shares l.fn.groups.items;
  each : shares l.groups.items ≡ shares l.fn.groups.items + length l.yielded;
  keys_are : all_keys l.groups.items ≡ all_keys l.fn.groups.items ++ map place_key l.yielded;
  lists_left : length l.lists.items + length l.yielded ≡ length l.fn.lists.items;
  lists_are : All IsRoom l.lists.items;
  room : vec_capacity l.groups ≡ vec_capacity l.fn.groups;
  stops : (may : Bool) → All (StopsBy (may ≡ true)) l.fn.groups.items → All (StopsBy (may ≡ true)) l.groups.items;
}
