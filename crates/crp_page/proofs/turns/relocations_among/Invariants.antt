-- The relocations so far.
use Rattle.std.proofs.Common.{◌≡◌, ◌≤◌, map, take}
use Rattle.crp_loading.specs.Views.{recorded}
use Rattle.crp_page.specs.Turns.{relocations_among}
use Rattle.crp_page.proofs.turns.relocations_among.Given as goal

abbrev pub invariant-loop-columns : goal.invariant-loop-columns
invariant-loop-columns l = record {
  value : l.count ≡ relocations_among (map recorded (take l.columns-index l.moves));
  low : l.count ≤ l.columns-index;
}
