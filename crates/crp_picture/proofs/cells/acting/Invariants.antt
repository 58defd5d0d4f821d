-- None of the moves so far is made there.
use Rattle.std.proofs.Common.{◌≡◌, drop}
use Rattle.crp_picture.specs.Frames.{acting}
use Rattle.crp_picture.specs.Views.{cell_as}
use Rattle.crp_picture.proofs.cells.acting.Given as goal

abbrev pub invariant-loop-stated : goal.invariant-loop-stated
invariant-loop-stated l = acting (drop l.stated-index l.moves) (cell_as l.cell) ≡ acting l.moves (cell_as l.cell)
