-- How many stand in the rows so far.
use Rattle.std.proofs.Common.{◌≡◌, take}
use Rattle.crp_follow.specs.Table.{standing}
use Rattle.crp_follow.proofs.columns.standing.Given as goal

abbrev pub invariant-loop-row : goal.invariant-loop-row
invariant-loop-row l = l.count ≡ standing (take l.row-index l.rows)
