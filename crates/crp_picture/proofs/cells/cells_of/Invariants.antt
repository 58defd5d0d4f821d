-- The rows so far are added.
use Rattle.std.proofs.Common.{◌≡◌, map}
use Rattle.crp_follow.specs.Stated.{moves_of}
use Rattle.crp_picture.specs.Cells.{cells_to}
use Rattle.crp_picture.specs.Views.{cell_as}
use Rattle.crp_picture.proofs.cells.cells_of.Given as goal

abbrev pub invariant-loop-i : goal.invariant-loop-i
invariant-loop-i l = map cell_as l.cells.items ≡ cells_to (moves_of l.bay.stated.moves) l.rows l.i
