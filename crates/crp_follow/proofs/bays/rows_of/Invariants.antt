-- The rows so far.
use Rattle.std.proofs.Common.{◌≡◌, take, Some, slice_get}
use Rattle.std.specs.Option.{option_map}
use Rattle.crp_follow.proofs.bays.rows_of.Given as goal

abbrev pub invariant-loop-i : goal.invariant-loop-i
invariant-loop-i l = option_map (λ b. take l.i b.1) (slice_get l.yard.bays l.bay) ≡ Some l.rows.items
