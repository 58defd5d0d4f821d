-- The decided bays so far.
use Rattle.std.proofs.Common.{◌≡◌, ◌≤◌, map, take}
use Rattle.crp_follow.specs.Views.{bay_followed}
use Rattle.crp_page.specs.Counts.{decided_in}
use Rattle.crp_page.proofs.counting.decided_in.Given as goal

abbrev pub invariant-loop-bay : goal.invariant-loop-bay
invariant-loop-bay l = record {
  value : l.count ≡ decided_in (map bay_followed (take l.bay-index l.bays));
  low : l.count ≤ l.bay-index;
}
