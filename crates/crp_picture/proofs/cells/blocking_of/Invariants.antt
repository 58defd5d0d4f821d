-- Those so far that block.
use Rattle.std.proofs.Common.{◌≡◌, ◌≤◌, map, take}
use Rattle.std.specs.Prelude.{count_by}
use Rattle.crp_picture.specs.Views.{cell_as}
use Rattle.crp_picture.proofs.cells.blocking_of.Given as goal

abbrev pub invariant-loop-cell : goal.invariant-loop-cell
invariant-loop-cell l = record { value : l.count ≡ count_by (λ c. c.blocks) (map cell_as (take l.cell-index l.cells)); low : l.count ≤ l.cell-index }
