-- Those so far are there as the frame shows them.
use Rattle.std.proofs.Common.{◌≡◌, map, take}
use Rattle.crp_picture.specs.Frames.{shown_in}
use Rattle.crp_picture.specs.Views.{cell_as}
use Rattle.crp_picture.proofs.cells.frame_cells.Given as goal

abbrev pub invariant-loop-cell : goal.invariant-loop-cell
invariant-loop-cell l = map cell_as l.cells.items ≡ map (shown_in l.frame.moves.now) (map cell_as (take l.cell-index l.cell-items))
