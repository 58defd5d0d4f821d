-- The sums of the bays so far; each number of a bay fits 64 bits.
use Rattle.std.proofs.Common.{◌≡◌, ◌≤◌, ◌*◌, map, take}
use Rattle.std.specs.Prelude.{sum_by}
use Rattle.crp_follow.specs.Views.{bay_followed}
use Rattle.crp_page.specs.Counts.{moves_in, relocations_in, takes_in, left_in}
use Rattle.crp_page.proofs.counting.sums_of.Given as goal

abbrev pub invariant-loop-bay : goal.invariant-loop-bay
invariant-loop-bay l = record {
  moves_are : l.sums.moves ≡ sum_by moves_in (map bay_followed (take l.bay-index l.bays));
  relocations_are : l.sums.relocations ≡ sum_by relocations_in (map bay_followed (take l.bay-index l.bays));
  takes_are : l.sums.takes ≡ sum_by takes_in (map bay_followed (take l.bay-index l.bays));
  left_are : l.sums.left ≡ sum_by left_in (map bay_followed (take l.bay-index l.bays));
  moves : l.sums.moves ≤ l.bay-index * 18446744073709551615;
  relocations : l.sums.relocations ≤ l.bay-index * 18446744073709551615;
  takes : l.sums.takes ≤ l.bay-index * 18446744073709551615;
  left : l.sums.left ≤ l.bay-index * 96;
}
