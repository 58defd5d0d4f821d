-- None of those so far stands there.
use Rattle.std.proofs.Common.{◌≡◌, map, drop}
use Rattle.crp_picture.specs.Pictures.{cell_at}
use Rattle.crp_picture.specs.Views.{cell_as}
use Rattle.crp_picture.proofs.labels.cell_at.Given as goal

abbrev pub invariant-loop-cell : goal.invariant-loop-cell
invariant-loop-cell l = cell_at (map cell_as (drop l.cell-index l.cells)) l.row l.tier ≡ cell_at (map cell_as l.cells) l.row l.tier
