-- The relocations so far.
use Rattle.std.proofs.Common.{◌≡◌, ◌≤◌, take}
use Rattle.std.specs.Prelude.{count_by}
use Rattle.crp_follow.specs.Stated.{moves_of}
use Rattle.crp_follow.specs.Faults.{is_shift}
use Rattle.crp_follow.proofs.bays.relocations_of.Given as goal

abbrev pub invariant-loop-stated : goal.invariant-loop-stated
invariant-loop-stated l = record {
  value : l.count ≡ count_by is_shift (moves_of (take l.stated-index l.moves));
  low : l.count ≤ l.stated-index;
}
