-- Those who leave so far, and those behind.
use Rattle.std.proofs.Common.{◌≡◌, suc, ◌++◌, map, drop}
use Rattle.crp_follow.specs.Stated.{moves_of}
use Rattle.crp_follow.specs.Table.{takes_from}
use Rattle.crp_follow.specs.Views.{taken_as}
use Rattle.crp_follow.proofs.taking.takes_of.Given as goal

abbrev pub invariant-loop-i : goal.invariant-loop-i
invariant-loop-i l = map taken_as l.takes.items ++ takes_from (suc l.i) (moves_of (drop l.i l.moves)) ≡ takes_from 1 (moves_of l.moves)
