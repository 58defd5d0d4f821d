-- The marks so far are added.
use Rattle.std.proofs.Common.{◌≡◌, ◌++◌, map, take}
use Rattle.std.specs.Prelude.{flat_map}
use Rattle.crp_picture.specs.Pictures.{marked}
use Rattle.crp_picture.specs.Views.{cell_as}
use Rattle.crp_picture.proofs.marks.push_each.Given as goal

abbrev pub invariant-loop-mark : goal.invariant-loop-mark
invariant-loop-mark l = l.text.items ≡ l.initial.text.items ++ flat_map (marked l.tiers (map cell_as l.cells)) (take l.mark-index l.marks)
