-- The columns of the bays so far.
use Rattle.std.proofs.Common.{◌≡◌, map, take}
use Rattle.crp_follow.specs.Table.{columns_of}
use Rattle.crp_follow.specs.Views.{bay_followed, columns_as}
use Rattle.crp_follow.proofs.columns.columns_of.Given as goal

abbrev pub invariant-loop-bay : goal.invariant-loop-bay
invariant-loop-bay l = map columns_as l.columns.items ≡ columns_of (map bay_followed (take l.bay-index l.bays))
