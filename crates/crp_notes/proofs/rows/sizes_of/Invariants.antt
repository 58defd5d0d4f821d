-- The sizes of the bays so far.
use Rattle.std.proofs.Common.{◌≡◌, map, take}
use Rattle.crp_notes.specs.Beyond.{sizes_of}
use Rattle.crp_notes.proofs.rows.sizes_of.Given as goal

abbrev pub invariant-loop-bay : goal.invariant-loop-bay
invariant-loop-bay l = map (λ heights. heights.now) l.sizes.items ≡ sizes_of l.yard (take l.bay l.yard.bays)
