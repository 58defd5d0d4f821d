-- The marks of those so far are added.
use Rattle.std.proofs.Common.{◌≡◌, ◌++◌, map, take}
use Rattle.std.specs.Prelude.{flat_map}
use Rattle.crp_picture.specs.Pictures.{mark_of}
use Rattle.crp_picture.specs.Views.{cell_as}
use Rattle.crp_picture.proofs.marks.push_strokes.Given as goal

abbrev pub invariant-loop-cell : goal.invariant-loop-cell
invariant-loop-cell l = l.text.items ≡ l.initial.text.items ++ flat_map (mark_of l.tiers l.mark) (map cell_as (take l.cell-index l.cells))
