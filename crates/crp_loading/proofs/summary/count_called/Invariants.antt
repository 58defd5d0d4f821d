-- Those so far.
use Rattle.std.proofs.Common.{◌≡◌, ◌≤◌, take}
use Rattle.std.specs.Prelude.{count_by}
use Rattle.crp_loading.specs.Summary.{is_called}
use Rattle.crp_loading.proofs.summary.count_called.Given as goal

abbrev pub invariant-loop-container : goal.invariant-loop-container
invariant-loop-container l = record {
  value : l.count ≡ count_by (is_called l.ship.sequence) (take l.container-index l.containers);
  low : l.count ≤ l.container-index;
}
