-- Those of the rows so far.
use Rattle.std.proofs.Common.{◌≡◌, Some, slice_get, take}
use Rattle.crp_yard.specs.Inventory.{StackedBay}
use Rattle.crp_notes.specs.Beyond.{last_row, top_tier}
use Rattle.crp_notes.proofs.rows.highest_in_bay.Given as goal

abbrev pub invariant-loop-i : goal.invariant-loop-i
invariant-loop-i l = (b : StackedBay) → slice_get l.yard.bays l.bay ≡ Some b → (l.row ≡ last_row (take l.i b.1)) × (l.tier ≡ top_tier (take l.i b.1))
