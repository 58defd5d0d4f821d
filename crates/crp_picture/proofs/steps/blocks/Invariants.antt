-- None of those so far leaves before the container.
use Rattle.std.proofs.Common.{◌≡◌, drop}
use Rattle.crp_follow.specs.Stated.{moves_of}
use Rattle.crp_picture.specs.Cells.{blocks}
use Rattle.crp_picture.proofs.steps.blocks.Given as goal

abbrev pub invariant-loop-below : goal.invariant-loop-below
invariant-loop-below l = blocks (moves_of l.bay.stated.moves) (drop l.below-index l.beneath) l.name ≡ blocks (moves_of l.bay.stated.moves) l.beneath l.name
