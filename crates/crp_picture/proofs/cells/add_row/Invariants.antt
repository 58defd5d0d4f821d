-- The tiers so far are added.
use Rattle.std.proofs.Common.{◌≡◌, ◌++◌, map}
use Rattle.crp_follow.specs.Stated.{moves_of}
use Rattle.crp_picture.specs.Cells.{row_cells}
use Rattle.crp_picture.specs.Views.{cell_as}
use Rattle.crp_picture.proofs.cells.add_row.Given as goal

abbrev pub invariant-loop-i : goal.invariant-loop-i
invariant-loop-i l = map cell_as l.cells.items ≡ map cell_as l.initial.cells.items ++ row_cells (moves_of l.bay.stated.moves) l.row l.stack l.i
