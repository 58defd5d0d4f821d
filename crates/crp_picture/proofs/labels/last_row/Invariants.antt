-- The rows behind this one have nothing in the line.
use Rattle.std.proofs.Common.{◌≡◌, map}
use Rattle.crp_picture.specs.Pictures.{last_row}
use Rattle.crp_picture.specs.Views.{cell_as}
use Rattle.crp_picture.proofs.labels.last_row.Given as goal

abbrev pub invariant-loop-last : goal.invariant-loop-last
invariant-loop-last l = last_row l.wording (map cell_as l.cells) l.tier l.last ≡ last_row l.wording (map cell_as l.cells) l.tier l.rows

abbrev pub decreases-loop-last : goal.decreases-loop-last
decreases-loop-last l = l.last
