-- Those of the bays of this size so far.
use Rattle.std.proofs.Common.{◌≡◌, take}
use Rattle.crp_notes.specs.Beyond.{of_size, last_row_of, top_tier_of}
use Rattle.crp_notes.proofs.rows.highest_of.Given as goal

abbrev pub invariant-loop-bay : goal.invariant-loop-bay
invariant-loop-bay l = record {
  row : l.row ≡ last_row_of (of_size l.yard l.heights (take l.bay l.yard.bays));
  tier : l.tier ≡ top_tier_of (of_size l.yard l.heights (take l.bay l.yard.bays));
}
